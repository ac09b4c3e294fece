-- Document 01, "Grid, row word, givens", Req 01 and Req 08, of one row: what it is worth, the givens that it keeps, and what it has to become; and the
-- whole row of one that is held as its left half. A row is its number; column k + 1 is counted by k, from 0.
-- Assumes nothing.
use Rattle.std.specs.Prelude.{◌≡◌, Bool, true, cond, List, [], ℕ, zero, suc, ◌+◌, ◌*◌, ◌-◌, ◌/◌, ◌%◌, ◌^◌, ◌<◌, eqb, get_or}
use Rattle.board.specs.Boards.{row_digits}
use Rattle.board.specs.Lists.{listed}
use Rattle.board.specs.Search.{all_below}
use Rattle.board.specs.Sums.{total}
use Rattle.life.specs.Rows.{row_number, digit_in}
use Rattle.board_rows.specs.Rows.{row_cell}
use Rattle.score_table.specs.declared.Want.{Want}

-- a cell keeps its mark: 1 given dead, 2 given live, otherwise free
unfoldable pub mark_kept : ℕ → ℕ → Bool
mark_kept mark cell = cond (eqb mark 1) (eqb cell 0) (cond (eqb mark 2) (eqb cell 1) true)

-- what a cell earns: a live cell counts where it is free, a given one doesn't
unfoldable pub cell_worth : ℕ → ℕ → ℕ
cell_worth mark cell = cond (eqb mark 1) 0 (cond (eqb mark 2) 0 cell)

-- the worth of a row: its live cells that are free, by the givens that start at a place of the grid
unfoldable pub row_worth : ℕ → List ℕ → ℕ → ℕ → ℕ
row_worth w givens at row = total (λ k. cell_worth (get_or givens (at + k) 0) (digit_in w row (k + 1))) w

-- a row keeps the givens that start at a place of the grid
unfoldable pub row_kept : ℕ → List ℕ → ℕ → ℕ → Bool
row_kept w givens at row = all_below (λ k. mark_kept (get_or givens (at + k) 0) (digit_in w row (k + 1))) w

-- one more than what a row earns, where it keeps the givens that start at a place of the grid; 0 where it doesn't
unfoldable pub row_gain : ℕ → List ℕ → ℕ → ℕ → ℕ
row_gain w givens at row = cond (row_kept w givens at row) (1 + row_worth w givens at row) 0

-- ---- targets
-- the marks that a row goes by: those that are lent, and none where a target is lent in their place
abbrev pub marks_of : Bool → List ℕ → List ℕ
marks_of target lent = cond target [] lent

-- the number that n bytes of a target read as from a place on: by the last binary digit of each, since any bytes may be lent here
unfoldable pub target_number : List ℕ → ℕ → ℕ → ℕ
target_number lent place zero = 0
target_number lent place (suc n) = 2 * target_number lent place n + get_or lent (place + n) 0 % 2

-- the row that row i, which is b, has to become: the target's row i, where row 0 is dead; without a target b stays as it is
abbrev pub target_row : Bool → ℕ → List ℕ → ℕ → ℕ → ℕ
target_row target w lent i b = cond target (cond (eqb i 0) 0 (target_number lent ((i - 1) * w) w)) b

-- ---- rows that are held as their left halves
-- the number of the row of w cells whose left half is c: the number that the cells which c stands for read as
unfoldable pub whole_row : ℕ → ℕ → ℕ
whole_row w c = row_number (listed (row_cell (w / 2) c) w) 0 w

-- the binary digits of a row's number
abbrev pub digits_of : Want → ℕ → ℕ
digits_of want w = row_digits want.halves w

-- the row that a number stands for
abbrev pub row_for : Want → ℕ → ℕ → ℕ
row_for want w c = cond want.halves (whole_row w c) c

-- the whole row has w cells, and they are those that its left half stands for; so the half stands on the left, and the row equals its own left-right
-- reflection: column w - k has the cell of column k + 1
pub record Whole (w c : ℕ) : Type 0 where
  pub row : whole_row w c < 2 ^ w
  pub cell : (k : ℕ) → k < w → digit_in w (whole_row w c) (k + 1) ≡ row_cell (w / 2) c k
  pub left : whole_row w c / 2 ^ (w / 2) ≡ c
  pub reflected : (k : ℕ) → k < w → digit_in w (whole_row w c) (w - k) ≡ digit_in w (whole_row w c) (k + 1)

-- THE WHOLE ROWS: so it is for every even width and every number of half as many binary digits
abbrev pub RowsWhole : Type 0
RowsWhole = (w c : ℕ) → w % 2 ≡ 0 → c < 2 ^ (w / 2) → Whole w c
