-- Req 07: the eight rotations and reflections of a grid, and which of them two in a row are.
-- Assumes nothing.
use Rattle.std.specs.Prelude.{Bool, true, false, not, cond, List, map, ℕ, ◌+◌, ◌*◌, ◌-◌, ◌/◌, ◌%◌, get_or}
use Rattle.board.specs.Lists.{listed}

-- ---- the eight turns
-- none to three quarter turns clockwise
pub data Quarters : Type 0 where
  none once twice thrice : Quarters

-- a turn: left and right exchanged or not, and then quarter turns
pub record Turn : Type 0 where
  pub reflected : Bool
  pub quarters : Quarters

-- the left-right reflection, and the one in the diagonal from top left to bottom right, rows for columns: all eight are made of these two
abbrev pub reflection : Turn
reflection = record { reflected = true; quarters = none }

abbrev pub diagonal : Turn
diagonal = record { reflected = true; quarters = thrice }

-- ---- two in a row
-- one quarter turn more
abbrev pub one_more : Quarters → Quarters
one_more none = once
one_more once = twice
one_more twice = thrice
one_more thrice = none

-- a and then b
abbrev pub plus : Quarters → Quarters → Quarters
plus none b = b
plus once b = one_more b
plus twice b = one_more (one_more b)
plus thrice b = one_more (one_more (one_more b))

-- as many counterclockwise
abbrev pub back : Quarters → Quarters
back none = none
back once = thrice
back twice = twice
back thrice = once

-- exactly one of two
abbrev pub one_of : Bool → Bool → Bool
one_of true b = not b
one_of false b = b

-- the single turn that t and then u are: reflected where exactly one of them is, and the quarter turns of both, t's counterclockwise where u is reflected
infixl 30 ◌and_then◌
abbrev pub ◌and_then◌ : Turn → Turn → Turn
t and_then u = record {
  reflected = one_of u.reflected t.reflected;
  quarters = plus (cond u.reflected (back t.quarters) t.quarters) u.quarters;
}

-- the turn that leaves a grid as it is
abbrev pub no_turn : Turn
no_turn = record { reflected = false; quarters = none }

-- the turn that undoes a turn: a reflected one undoes itself
abbrev pub inverse : Turn → Turn
inverse t = record { reflected = t.reflected; quarters = cond t.reflected t.quarters (back t.quarters) }

-- ---- the turned grid
-- width and height change places with every quarter turn
abbrev pub side_after : Quarters → ℕ → ℕ → ℕ
side_after none side other = side
side_after once side other = other
side_after twice side other = side
side_after thrice side other = other

abbrev pub turned_width : Turn → ℕ → ℕ → ℕ
turned_width t w h = side_after t.quarters w h

abbrev pub turned_height : Turn → ℕ → ℕ → ℕ
turned_height t w h = side_after t.quarters h w

-- a cell of a grid, its row and column counted from 0
pub record Cell : Type 0 where
  pub row : ℕ
  pub column : ℕ

-- left and right exchanged in a grid w wide: row r, column c reads row r, column w - 1 - c
abbrev pub reflect : ℕ → Cell → Cell
reflect w s = record { row = s.row; column = w - 1 - s.column }

-- a quarter turn clockwise of a grid w wide and h high: row r, column c of the turned grid reads row h - 1 - c, column r
abbrev pub quarter : ℕ → ℕ → Cell → Cell
quarter w h s = record { row = h - 1 - s.column; column = s.row }

-- quarter turns of a grid w wide and h high, the last undone first: the second turned a grid h wide and w high, the third one as at first
abbrev pub quarters_from : Quarters → ℕ → ℕ → Cell → Cell
quarters_from none w h s = s
quarters_from once w h s = quarter w h s
quarters_from twice w h s = quarter w h (quarter h w s)
quarters_from thrice w h s = quarter w h (quarter h w (quarter w h s))

-- left and right exchanged or not
abbrev pub reflect_from : Bool → ℕ → Cell → Cell
reflect_from true w s = reflect w s
reflect_from false w s = s

-- the cell of a grid w wide and h high that a cell of the turned grid reads
abbrev pub cell_from : Turn → ℕ → ℕ → Cell → Cell
cell_from t w h s = reflect_from t.reflected w (quarters_from t.quarters w h s)

-- ---- lists of w × h entries in reading order
-- a cell's place in a grid w wide, and the cell of a place
abbrev pub place_in : ℕ → Cell → ℕ
place_in w s = s.row * w + s.column

abbrev pub cell_at : ℕ → ℕ → Cell
cell_at w k = record { row = k / w; column = k % w }

-- place k of the turned list reads this place of the list
unfoldable pub source : Turn → ℕ → ℕ → ℕ → ℕ
source t w h k = place_in w (cell_from t w h (cell_at (turned_width t w h) k))

-- a list of any entries, turned: entry k is the one at the place that k reads, or d where the list is too short to have it
unfoldable pub turned_list : {A : Type 0} → A → Turn → ℕ → ℕ → List A → List A
turned_list d t w h xs = map (λ k. get_or xs (source t w h k) d) (listed (λ k. k) (w * h))

-- givens or a board, turned
abbrev pub turned_bytes : Turn → ℕ → ℕ → List ℕ → List ℕ
turned_bytes t w h xs = turned_list 0 t w h xs
