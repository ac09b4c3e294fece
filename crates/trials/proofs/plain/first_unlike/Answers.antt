-- `trials::plain::first_unlike` meets its contract: a search that finds no row has looked at rows 1 to h, which are the board.
-- Assumes nothing.
use Prim.Native.Nat.{zero, suc}
use lib.Seq.{take-add}
use native.Mathlib.Nat.{mod-eq_of_lt, zero-mul, suc-mul, le-mul_of_pos_right}
use Rattle.std.proofs.Common.{◌≡◌, ◌+◌, ◌*◌, ◌-◌, ◌%◌, ◌^◌, ◌<◌, ◌≤◌, ℕ, List, All, take, drop, arith, rules, tests}
use Rattle.std.specs.Bool.{⊤}
use Rattle.std.proofs.lemmas.Iterator.{first_from_Range}
use Rattle.std.proofs.lemmas.List.Elements.{All-nil, All-append}
use Rattle.std.proofs.lemmas.Option.{MatchOption-at_none}
use Rattle.trials.proofs.plain.first_unlike.Goals as goal

abbrev OfCells : List ℕ → Type 0
OfCells = All (λ cell. cell < 2)

module _ (board : List ℕ) where
  -- the cells of row k + 1
  abbrev RowOfCells : ℕ → ℕ → Type 0
  RowOfCells w k = OfCells (take w (drop (k * w % 2 ^ 64) board))

  -- rows of no cells are of cells
  row_of_width : (w k : ℕ) → (0 < w → RowOfCells w k) → RowOfCells w k
  row_of_width zero k row = All-nil (λ cell. cell < 2)
  row_of_width (suc w) k row = row (omega arith)

  -- one more row
  rows_more : (w h : ℕ) → h * w < 2 ^ 64 → OfCells (take (h * w) board) → RowOfCells w h → OfCells (take (h * w + w) board)
  rows_more w h small rows row =
      let last : OfCells (take w (drop (h * w) board)) = rw (mod-eq_of_lt small) at row in
      rw (take-add (h * w) w board) (All-append (λ cell. cell < 2) (take (h * w) board) (take w (drop (h * w) board)) rows last)

  -- rows 1 to h are the board's first h * w cells
  cells_of_rows : (w h : ℕ) → h * w < 2 ^ 64 → ((k : ℕ) → k < h → RowOfCells w k) → OfCells (take (h * w) board)
  cells_of_rows w zero small rows = rw (zero-mul w) (All-nil (λ cell. cell < 2))
  cells_of_rows w (suc h) small rows =
      let e : suc h * w ≡ h * w + w = suc-mul h w in
      let below : h * w < 2 ^ 64 = omega (arith, e, small) in
      rw e (rows_more w h below (cells_of_rows w h below (λ k l. rows k (omega (arith, l)))) (rows h (omega arith)))

  -- the same of rows by their numbers, which fit
  cells_of_numbered : (w h : ℕ) → h * w < 2 ^ 64 - 1 → ((r : ℕ) → 0 < r → r ≤ h → r < 2 ^ 64 - 1 → RowOfCells w (r - 1)) → OfCells (take (h * w) board)
  cells_of_numbered w h small rows = cells_of_rows w h (omega (arith, small)) (λ k l. row_of_width w k (λ wide.
      let fits : h ≤ h * w = le-mul_of_pos_right h wide in
      let row : RowOfCells w (k + 1 - 1) = rows (k + 1) (omega arith) (omega (arith, l)) (omega (arith, fits, small, l)) in
      let e : k + 1 - 1 ≡ k = omega arith in
      rw e at row))

pub returns-clause-cells : goal.returns-clause-cells
returns-clause-cells c = λ none small.
    let a = c.args in
    let board = a.board.now in
    let found = first_from_Range _ _ _ c.find.result (λ _. ⊤) (λ r. 0 < r → r ≤ a.h → RowOfCells board a.w (r - 1))
    c.find.ensures.ran (λ x q k. tt) (λ x q k. search (rules, tests)) in
    cells_of_numbered board a.w a.h small
    (λ r low high fits. MatchOption-at_none _ _ none found r (omega (arith, low)) (omega (arith, c.saturating_add.ensures, high, fits)) low high)
