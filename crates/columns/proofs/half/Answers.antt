-- `columns::half` meets its contract: a turn writes a run.
-- Assumes nothing.
use mathlib.Core.Path.{refl}
use Rattle.column_elimination.proofs.Turns.{half_turn}
use Rattle.columns.proofs.half.Goals as goal

pub loop-r-preserved : goal.loop-r-preserved
loop-r-preserved c =
    let g = c.args in
    half_turn _ _ g.i g.m g.n g.o c.loop-r.r _ _ _ _ c.requires.0 refl refl refl refl c.loop-r.invariant c.part.ensures
