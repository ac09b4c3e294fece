-- Document 01, "Plaintext boards and the program": "prints ! and the score, then the board; or "!none"; or "!refused " and the number; each line
-- with LF". A text is a list of bytes.
-- Assumes nothing.
use Rattle.std.specs.Prelude.{◌≡◌, cond, List, [], ◌∷◌, ◌++◌, ℕ, zero, suc, ◌+◌, ◌/◌, ◌%◌, ltb, length, drop}
use Rattle.writer.specs.Letters.{LF, bang, big_o}
use Rattle.writer.specs.Writing.{board_text}

-- the byte of a number's last digit
abbrev pub digit_byte : ℕ → ℕ
digit_byte n = 48 + n % 10

-- the digits of a number, with at most so many in front of the last: those of its tenth, where there is one, and the last
unfoldable pub digits : ℕ → ℕ → List ℕ
digits zero n = digit_byte n ∷ []
digits (suc k) n = cond (ltb n 10) [] (digits k (n / 10)) ++ (digit_byte n ∷ [])

-- a number in decimal. It has at most n digits in front of the last
abbrev pub decimal : ℕ → List ℕ
decimal n = digits n n

-- words, a number and LF
abbrev pub line : List ℕ → ℕ → List ℕ
line words n = words ++ decimal n ++ (LF ∷ [])

-- `!none` and LF
abbrev pub none_line : List ℕ
none_line = bang ∷ 110 ∷ 111 ∷ 110 ∷ 101 ∷ LF ∷ []

-- `!refused `, with its space
abbrev pub refused_words : List ℕ
refused_words = bang ∷ 114 ∷ 101 ∷ 102 ∷ 117 ∷ 115 ∷ 101 ∷ 100 ∷ 32 ∷ []

abbrev pub refused_line : ℕ → List ℕ
refused_line number = line refused_words number

-- "! and the score, then the board"
abbrev pub best_text : ℕ → ℕ → ℕ → List ℕ → List ℕ
best_text score w h board = line (bang ∷ []) score ++ board_text w h board

-- for example 0, 10 and 600; and "Input `..` and `..` on two lines prints `!4`, `OO`, `OO`"
abbrev pub Examples : Type 0
Examples =
    (decimal 0 ≡ 48 ∷ []) × (decimal 10 ≡ 49 ∷ 48 ∷ []) × (decimal 600 ≡ 54 ∷ 48 ∷ 48 ∷ []) ×
    (best_text 4 2 2 (1 ∷ 1 ∷ 1 ∷ 1 ∷ []) ≡ bang ∷ 52 ∷ LF ∷ big_o ∷ big_o ∷ LF ∷ big_o ∷ big_o ∷ LF ∷ [])

-- a text is printed: it stands at the start of the output, which keeps the bytes past it, and its length is answered
pub record Prints (text output : List ℕ) (n : ℕ) (output' : List ℕ) : Type 0 where
  pub count : n ≡ length text
  pub bytes : output' ≡ text ++ drop n output
