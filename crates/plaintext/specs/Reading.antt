-- Document 01, "Plaintext boards and the program": what a text reads as. It is cut into lines, each line is judged, and the rows give
-- width, height and cells.
-- Assumes nothing.
use Rattle.std.specs.Prelude.{◌≡◌, Bool, cond, ◌&&◌, ℕ, ◌+◌, ◌*◌, ◌-◌, max, eqb, leb, length, get_or, take, drop, replicate, Option, None, Some, Result}
use mathlib.Core.List.{List, [], ◌∷◌, ◌++◌, map, flat_map}
use Rattle.board.specs.declared.Refusal.{Refusal}
use Rattle.board.specs.Search.{first_not}
use Rattle.board.specs.Answers.{Answer, gives, says, ◌then◌, refuse_unless, refuse_at, after}
use Rattle.board.specs.Checks.{width_check, height_check}
use Rattle.writer.specs.Letters.{CR, bang, is_letter, letter_cell}
use Rattle.plaintext.specs.declared.Size.{Size}
use Rattle.plaintext.specs.Lines.{Line, lines_of}

-- ---- a line is judged
-- a comment; a row of cells; or bad, with the place of its first byte that isn't allowed
pub data Judged : Type 0 where
  comment : Judged
  row : List ℕ → Judged
  bad : ℕ → Judged

-- "A line starting with ! is a comment." (An empty line has no first byte; 0 stands for it.)
abbrev pub is_comment : List ℕ → Bool
is_comment bytes = eqb (get_or bytes 0 0) bang

-- the last byte is CR
abbrev pub ends_in_cr : List ℕ → Bool
ends_in_cr bytes = eqb (get_or bytes (length bytes - 1) 0) CR

-- "one CR just before LF is dropped"
abbrev pub without_cr : Line → List ℕ
without_cr l = cond (l.ended && ends_in_cr l.bytes) (take (length l.bytes - 1) l.bytes) l.bytes

-- the byte of a row at a place is a letter
abbrev pub letter_at : List ℕ → ℕ → Bool
letter_at bytes place = is_letter (get_or bytes place 0)

-- "Other lines are rows of . (dead) and O (live)": a row that starts at a place of the text, by the first place in it that holds no letter.
-- "a CR elsewhere outside a comment is refusal 8": it is no letter
abbrev pub judge_row : ℕ → List ℕ → Option ℕ → Judged
judge_row at bytes None = row (map letter_cell bytes)
judge_row at bytes (Some place) = bad (at + place)

-- a line that starts at a place
unfoldable pub judge : ℕ → Line → Judged
judge at l = cond (is_comment l.bytes) comment (judge_row at (without_cr l) (first_not (letter_at (without_cr l)) (length (without_cr l))))

-- lines, the first of which starts at a place: the next starts after its bytes and its LF
unfoldable pub judge_lines : ℕ → List Line → List Judged
judge_lines at [] = []
judge_lines at (l ∷ ls) = judge at l ∷ judge_lines (at + length l.bytes + 1) ls

-- "The text is read through a reader made of the caller's bytes and a place in them": its lines are those from that place on
unfoldable pub judged : List ℕ → ℕ → List Judged
judged bytes at = judge_lines at (lines_of (drop at bytes))

-- ---- the judged lines give rows
-- 8, Letter: "text byte not allowed; with its first place from 0", counted from the start of the caller's bytes
unfoldable pub first_bad : List Judged → Option ℕ
first_bad [] = None
first_bad (comment ∷ lines) = first_bad lines
first_bad (row cells ∷ lines) = first_bad lines
first_bad (bad place ∷ lines) = Some place

-- the rows from the top; a comment is none
unfoldable pub rows_of : List Judged → List (List ℕ)
rows_of [] = []
rows_of (comment ∷ lines) = rows_of lines
rows_of (row cells ∷ lines) = cells ∷ rows_of lines
rows_of (bad place ∷ lines) = rows_of lines

-- ---- the rows give a board
-- "width is the longest row"
unfoldable pub width_of : List (List ℕ) → ℕ
width_of [] = 0
width_of (r ∷ rows) = max (length r) (width_of rows)

-- "short rows are filled with dead cells"; "an empty line is a dead row": it is filled whole
unfoldable pub filled : ℕ → List ℕ → List ℕ
filled w r = r ++ replicate (w - length r) 0

-- the cells in reading order
unfoldable pub cells_of : ℕ → List (List ℕ) → List ℕ
cells_of w rows = flat_map (filled w) rows

-- ---- the call
-- 2, 1, 5: "Here 5 means a cell buffer shorter than w × h". "It answers width and height"
unfoldable pub size_rule : List (List ℕ) → ℕ → Answer
size_rule rows room =
    height_check (length rows) then
    width_check (width_of rows) then
    refuse_unless (leb (width_of rows * length rows) room) 5 then
    gives (width_of rows ∷ length rows ∷ [])

-- text in: 8, 2, 1, 5
unfoldable pub read_rule : List ℕ → ℕ → ℕ → Answer
read_rule bytes at room = refuse_at (first_bad (judged bytes at)) 8 then size_rule (rows_of (judged bytes at)) room

-- "and writes w × h cells": those past them keep what they held
unfoldable pub board_over : List (List ℕ) → List ℕ → List ℕ
board_over rows cells = cells_of (width_of rows) rows ++ drop (width_of rows * length rows) cells

-- an answer in the paper's terms
abbrev pub read_says : Result Size Refusal → Answer
read_says = says (λ size. size.width ∷ size.height ∷ [])

-- reading the bytes from a place on answers r, and leaves cells' in the lent cells
pub record ReadsText (bytes : List ℕ) (at : ℕ) (cells cells' : List ℕ) (r : Result Size Refusal) : Type 0 where
  pub answers : read_says r ≡ read_rule bytes at (length cells)
  pub leaves : cells' ≡ after (read_rule bytes at (length cells)) (board_over (rows_of (judged bytes at)) cells) cells
