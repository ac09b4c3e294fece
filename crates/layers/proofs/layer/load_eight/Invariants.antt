-- `layers::layer::load_eight` meets its contract. The loop's invariant: so many numbers are loaded.
-- Assumes nothing.
use Rattle.std.specs.Prelude.{◌+◌, ◌*◌, get_or}
use Rattle.column_elimination.specs.Columns.{scored}
use Rattle.column_elimination.specs.Written.{Wrote}
use Rattle.layers.proofs.layer.load_eight.Given as goal

abbrev pub invariant-loop-l : goal.invariant-loop-l
invariant-loop-l l = Wrote l.o l.l (λ y. scored l.limit l.gain (get_or l.table (l.at + y * l.n) 0)) l.initial.vector l.vector
