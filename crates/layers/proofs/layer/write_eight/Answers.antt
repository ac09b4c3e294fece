-- `layers::layer::write_eight` meets its contract, entry by entry.
-- Assumes nothing.
use mathlib.Core.Path.{refl}
use Rattle.column_elimination.specs.Columns.{after_last}
use Rattle.column_elimination.proofs.Writing.{wrote_more}
use Rattle.layers.proofs.layer.write_eight.Goals as goal

pub loop-l-preserved : goal.loop-l-preserved
unfolding after_last
loop-l-preserved c = wrote_more c.loop-l.invariant _ refl _ (rw (c.entry_of.ensures, c.top.ensures, c.top-v.ensures, c.top-u.ensures))
