-- `job::shape::Shape::entries` meets its contract: the shift is a product with 4 to the digits.
-- Assumes nothing.
use mathlib.Core.Path.{◌≡◌}
use Prim.Native.Nat.{ℕ, ◌*◌, ◌%◌, ◌^◌, ◌≤◌}
use Rattle.board.specs.Boards.{max_width, max_height}
use Rattle.board.specs.Checks.{table_size}
use Rattle.board.proofs.Powers.{table_le, table_shift}
use Rattle.job.proofs.shape.Shape.entries.Goals as goal

shifted : {w layers : ℕ} → w ≤ max_width → layers ≤ max_height → layers * 2 ^ (2 * w) % 2 ^ 64 ≡ layers * 4 ^ w
unfolding table_size
shifted a b = table_shift a b

fits : {w layers : ℕ} → w ≤ max_width → layers ≤ max_height → layers * 4 ^ w ≤ 62914560
unfolding table_size
fits a b = table_le a b

pub returns : goal.returns
returns c =
    let d = c.row_digits.ensures.1 in
    let e = shifted d c.requires in
    rw (← c.row_digits.ensures.0) (e, rw e (fits d c.requires))
