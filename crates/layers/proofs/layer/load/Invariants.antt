-- `layers::layer::load` meets its contract. The loops' invariants: so many rows are loaded, and so many places after them are 0.
-- Assumes nothing.
use Rattle.std.specs.Prelude.{◌*◌}
use Rattle.column_elimination.specs.Columns.{loaded}
use Rattle.column_elimination.specs.Written.{Wrote}
use Rattle.layers.proofs.layer.load.Given as goal

abbrev pub invariant-loop-c : goal.invariant-loop-c
invariant-loop-c l = Wrote 0 (8 * l.c) (loaded l.rows.limit l.rows.n l.rows.worth.now l.table l.first) l.initial.vector l.vector
