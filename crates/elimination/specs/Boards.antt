-- Boards as rows, for any kind of job: what ties boards to endings, and the board that row elimination chooses. A board's rows are counted from 1, as
-- document 01 does; row 0 and the one above it are 0.
-- Assumes nothing.
use Rattle.std.specs.Prelude.{◌≡◌, Bool, true, false, List, [], ◌∷◌, ◌↔◌, ◌⊎◌, ℕ, zero, suc, ◌-◌, ◌<◌}
use Rattle.elimination.specs.Order.{row_before}
use Rattle.elimination.specs.Kind.{Kind, right_entry, right_rows}
use Rattle.elimination.specs.Endings.{Ending, total, SameWorth, Laws}

-- the k rows that follow row r
unfoldable pub rows_from : (ℕ → ℕ) → ℕ → ℕ → List ℕ
rows_from row r zero = []
rows_from row r (suc k) = row (suc r) ∷ rows_from row (suc r) k

-- the row that row r follows
abbrev pub previous_row : (ℕ → ℕ) → ℕ → ℕ
previous_row row zero = 0
previous_row row (suc r) = row r

-- of rows 1 to h the first that differ decide, and those of `row` come before those of `other`
pub record Earlier (greater_first : Bool) (h : ℕ) (row other : ℕ → ℕ) : Type 0 where
  pub place : ℕ
  pub inside : place < h
  pub equal : (r : ℕ) → r < place → row (suc r) ≡ other (suc r)
  pub decides : row_before greater_first (row (suc place)) (other (suc place)) ≡ true

module _ {X : Type 0} (G : Kind X) (h : ℕ) where
  -- each of rows 1 to h may stand below the two above it, and the board may end below row h
  pub record RowsMayStand (row : ℕ → ℕ) : Type 0 where
    pub below : (r : ℕ) → r < h → row (suc r) < G.codes
    pub each : (r : ℕ) → r < h → G.may (h - suc r) (previous_row row r) (row r) (row (suc r)) ≡ true
    pub final : G.may_end (previous_row row h) (row h) ≡ true

  -- THE THEOREM of rows: they are an ending exactly when they may stand
  abbrev pub EndingsStand : Type 0
  EndingsStand = (row : ℕ → ℕ) → row 0 ≡ 0 → Ending G h 0 0 (rows_from row 0 h) ↔ RowsMayStand row

  -- boards of any form, with their rows, those that are solutions, and what a board counts
  module _ {B : Type 0} (row : B → ℕ → ℕ) (Solution : B → Type 0) (count : B → X) where
    -- the rows of solutions are the endings; a solution is its rows, and counts what they are worth
    pub record BoardLaws (board_of : List ℕ → B) : Type 0 where
      pub ends : (b : B) → Solution b → Ending G h 0 0 (rows_from (row b) 0 h)
      pub solves : (cs : List ℕ) → Ending G h 0 0 cs → Solution (board_of cs)
      pub rows : (cs : List ℕ) → Ending G h 0 0 cs → rows_from (row (board_of cs)) 0 h ≡ cs
      pub same : (a b : B) → Solution a → Solution b → ((r : ℕ) → r < h → row a (suc r) ≡ row b (suc r)) → a ≡ b
      pub counts : (b : B) → Solution b → count b ≡ total G (rows_from (row b) 0 h)

    -- the board that is wanted: it is a solution, none is better, and any other as good comes later
    pub record BestBoard (board : B) : Type 0 where
      pub solution : Solution board
      pub unbeaten : (other : B) → Solution other → G.comparison.worse (count board) (count other) ≡ false
      pub earliest : (other : B) → Solution other → SameWorth G (count other) (count board) → (other ≡ board) ⊎ Earlier G.comparison.greater_first h (row board) (row other)

    -- right entries choose the wanted board, and the right entry is what it counts; or there is no solution, and the right entry says so
    pub data BoardSolved : Type 0 where
      the_best : (board : B) → BestBoard board → rows_from (row board) 0 h ≡ right_rows G h 0 0 → SameWorth G (count board) (right_entry G h 0 0) → BoardSolved
      no_board : ((board : B) → Solution board → ⊥) → right_entry G h 0 0 ≡ G.absent → BoardSolved

    -- THE THEOREM of boards
    abbrev pub BestIsChosen : (List ℕ → B) → Type 0
    BestIsChosen board_of = Laws G h → BoardLaws board_of → BoardSolved
