-- `job::numbers::units_fit` meets its contract, by the mark and then the round.
-- Assumes nothing.
use mathlib.Core.Path.{◌∙◌}
use native.Mathlib.Omega.{arith}
use borrow.Author.Tests.{lt-leb}
use Rattle.board.specs.Checks.{table_size}
use Rattle.board.proofs.Powers.{table_le, table_within}
use Rattle.elimination.specs.Shape.{units_fit}
use Rattle.job.proofs.Rounds.{ends_not}
use Rattle.job.proofs.numbers.units_fit.Goals as goal

pub overflow_add-result : goal.overflow_add-result
overflow_add-result c =
    let S = c.args.shape in
    rw (rw c.row_digits.ensures.0 at c.table_size.ensures ∙ table_within S.narrow.narrow S.low) (omega (arith, table_le S.narrow.narrow S.low))

pub returns-else-shape-x : goal.returns-else-shape-x
unfolding units_fit
returns-else-shape-x c = simp (c.in-1.is, ends_not c.requires (omega arith), lt-leb c.args.shape.height c.args.x.rows (omega arith))

pub returns-in-2 : goal.returns-in-2
unfolding units_fit table_size
returns-in-2 c =
    let S = c.args.shape in
    rw (rw c.row_digits.ensures.0 at c.table_size.ensures ∙ table_within S.narrow.narrow S.low) (simp c.in-2.is)
