-- Document 01, "Plaintext boards and the program": the text that the program takes, and the givens that it holds.
-- Assumes nothing.
use Rattle.std.specs.Prelude.{cond, List, [], ◌∷◌, map, ℕ, eqb, leb, length}
use Rattle.board.specs.Answers.{Answer, gives, refuses, ◌then◌, refuse_unless}
use Rattle.plaintext.specs.Reading.{judged, rows_of, width_of, cells_of, read_rule}
use Rattle.puzzle.specs.Sizes.{longest_text, cell_room}

-- "the program 12, then as text in": a text that is too long, then reading into the cells for the givens
unfoldable pub text_check : List ℕ → Answer
text_check text = refuse_unless (leb (length text) longest_text) 12 then read_rule text 0 cell_room

-- every text is turned away, or holds a grid of some width and height
pub data Decided : Answer → Type 0 where
  turned : (number : ℕ) (values : List ℕ) → Decided (refuses number values)
  sized : (w h : ℕ) → Decided (gives (w ∷ h ∷ []))

abbrev pub EveryText : Type 0
EveryText = (text : List ℕ) → Decided (text_check text)

-- the cells that a text holds
abbrev pub text_cells : List ℕ → List ℕ
text_cells text = let rows = rows_of (judged text 0) in cells_of (width_of rows) rows

-- "takes O as given live and . as free": the given of a cell that was read
abbrev pub given_of : ℕ → ℕ
given_of cell = cond (eqb cell 0) 0 2

abbrev pub text_givens : List ℕ → List ℕ
text_givens text = map given_of (text_cells text)
