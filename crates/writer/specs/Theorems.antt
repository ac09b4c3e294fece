-- Document 01, "Plaintext boards and the program": what is promised of what is written.
-- Assumes nothing.
use Rattle.std.specs.Prelude.{◌≡◌, List, ℕ, ◌*◌, length}
use Rattle.writer.specs.Writing.{board_text, text_length}

-- the length that text out answers is that of the board's text
abbrev pub TextHasLength : Type 0
TextHasLength = (w h : ℕ) (board : List ℕ) → length board ≡ w * h → length (board_text w h board) ≡ text_length w h
