-- `columns::eight` meets its contract: a turn writes the next lane.
-- Assumes nothing.
use mathlib.Core.Path.{refl}
use Rattle.column_elimination.proofs.Writing.{wrote_more}
use Rattle.columns.proofs.eight.Goals as goal

pub loop-l-preserved : goal.loop-l-preserved
loop-l-preserved g c = λ f is. wrote_more (c.loop-l.invariant f is) _ refl _ (is c.loop-l.l c.lane.result c.loop-l-test.true c.lane.ensures)
