-- `layers::layer::write_all` meets its contract, row by row.
-- Assumes nothing.
use mathlib.Core.Path.{refl}
use native.Mathlib.Omega.{arith}
use Rattle.column_elimination.proofs.Writing.{spread_more}
use Rattle.layers.proofs.layer.write_all.Goals as goal

pub loop-a-preserved : goal.loop-a-preserved
loop-a-preserved c =
    spread_more _ _ _ (omega arith) _ c.loop-a.invariant c.loop-a-test.true (omega (arith, c.loop-a.invariant.long, c.requires.2)) c.write_eight.ensures (λ l h. refl)
