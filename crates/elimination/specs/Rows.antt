-- Rows of a board, counted from 0, of w bytes each: which bytes change, and how a row is written and reads back.
-- Assumes nothing.
use Rattle.std.specs.Prelude.{◌≡◌, List, ℕ, suc, ◌*◌, ◌≤◌, ◌<◌, length, get_or}

-- no byte outside the rows from k up to k' changes, k' not counted, and the board's length stays
pub record OnlyRows (w k k' : ℕ) (before now : List ℕ) : Type 0 where
  pub size : length now ≡ length before
  pub above : (p : ℕ) → p < k * w → get_or now p 0 ≡ get_or before p 0
  pub below : (p : ℕ) → k' * w ≤ p → get_or now p 0 ≡ get_or before p 0

-- no byte outside row r
abbrev pub OnlyRow : ℕ → ℕ → List ℕ → List ℕ → Type 0
OnlyRow w r before now = OnlyRows w r (suc r) before now

-- how rows stand in a board: each is written within its w bytes, and reads back from them
pub record RowWriter (w codes : ℕ) (write : ℕ → ℕ → List ℕ → List ℕ) (read : ℕ → List ℕ → ℕ) : Type 0 where
  pub only : (r c : ℕ) (board : List ℕ) → OnlyRow w r board (write r c board)
  pub back : (r c : ℕ) (board : List ℕ) → c < codes → suc r * w ≤ length board → read r (write r c board) ≡ c
  pub alike : (r : ℕ) (board other : List ℕ) → ((p : ℕ) → r * w ≤ p → p < suc r * w → get_or board p 0 ≡ get_or other p 0) → read r board ≡ read r other
