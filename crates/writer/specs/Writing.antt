-- Document 01, "Plaintext boards and the program": what a board is written as.
-- Assumes nothing.
use Rattle.std.specs.Prelude.{◌≡◌, ℕ, zero, suc, ◌+◌, ◌*◌, leb, length, take, drop, Result}
use mathlib.Core.List.{List, [], ◌∷◌, ◌++◌, map, flat_map}
use Rattle.board.specs.Answers.{Answer, gives, says, ◌then◌, refuse_unless, after}
use Rattle.board.specs.Checks.{board_check}
use Rattle.board.specs.declared.Refusal.{Refusal}
use Rattle.writer.specs.Letters.{LF, letter_of}

-- the rows of a board: h of them, w cells each
unfoldable pub board_rows : ℕ → ℕ → List ℕ → List (List ℕ)
board_rows w zero cells = []
board_rows w (suc h) cells = take w cells ∷ board_rows w h (drop w cells)

-- "w letters, each with LF"
unfoldable pub row_text : List ℕ → List ℕ
row_text cells = map letter_of cells ++ (LF ∷ [])

-- "Writing gives h rows of w letters"
unfoldable pub board_text : ℕ → ℕ → List ℕ → List ℕ
board_text w h cells = flat_map row_text (board_rows w h cells)

-- its length
abbrev pub text_length : ℕ → ℕ → ℕ
text_length w h = h * (w + 1)

-- text out: 1, 2, 5, 11, 10, "text buffer too short"; "and answers that length"
unfoldable pub write_rule : ℕ → ℕ → List ℕ → ℕ → Answer
write_rule w h cells room = board_check w h cells then refuse_unless (leb (text_length w h) room) 10 then gives (text_length w h ∷ [])

-- the text over what the buffer held, which keeps the bytes past it
unfoldable pub text_over : ℕ → ℕ → List ℕ → List ℕ → List ℕ
text_over w h cells text = board_text w h cells ++ drop (text_length w h) text

-- an answer in the paper's terms
abbrev pub written_says : Result ℕ Refusal → Answer
written_says = says (λ n. n ∷ [])

-- writing a board answers r, and leaves text' in the lent text
pub record WritesText (w h : ℕ) (cells text text' : List ℕ) (r : Result ℕ Refusal) : Type 0 where
  pub answers : written_says r ≡ write_rule w h cells (length text)
  pub leaves : text' ≡ after (write_rule w h cells (length text)) (text_over w h cells text) text
