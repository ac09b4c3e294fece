-- `layers::layer::write_eight` meets its contract. The loop's invariant: so many entries are written.
-- Assumes nothing.
use Rattle.column_elimination.specs.Columns.{after_last, entry_in}
use Rattle.column_elimination.specs.Written.{Wrote}
use Rattle.layers.proofs.layer.write_eight.Given as goal

abbrev pub invariant-loop-l : goal.invariant-loop-l
invariant-loop-l l = Wrote l.o l.l (λ y. entry_in (after_last l.src l.last l.a y)) l.initial.table l.table
