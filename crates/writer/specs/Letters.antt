-- Document 01, "Plaintext boards and the program": the bytes of the form, and the letters of cells, for text out and text in.
-- Assumes nothing.
use Rattle.std.specs.Prelude.{Bool, cond, ◌||◌, ℕ, eqb}

abbrev pub LF : ℕ
LF = 10

abbrev pub CR : ℕ
CR = 13

-- the byte `!`
abbrev pub bang : ℕ
bang = 33

-- the byte `.`
abbrev pub dot : ℕ
dot = 46

-- the byte `O`
abbrev pub big_o : ℕ
big_o = 79

-- ". (dead) and O (live)"
abbrev pub is_letter : ℕ → Bool
is_letter b = eqb b dot || eqb b big_o

abbrev pub letter_cell : ℕ → ℕ
letter_cell letter = cond (eqb letter big_o) 1 0

abbrev pub letter_of : ℕ → ℕ
letter_of cell = cond (eqb cell 0) dot big_o
