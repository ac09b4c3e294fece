-- `columns::keeps` meets its contract: a turn writes the next mask.
-- Assumes nothing.
use native.Mathlib.Omega.{arith}
use Rattle.column_elimination.specs.Columns.{pattern_kept}
use Rattle.column_elimination.proofs.Writing.{wrote_more}
use Rattle.columns.proofs.keeps.Goals as goal

pub loop-p-preserved : goal.loop-p-preserved
unfolding pattern_kept
loop-p-preserved c = wrote_more c.loop-p.invariant _ (omega arith) _ c.mask.ensures
