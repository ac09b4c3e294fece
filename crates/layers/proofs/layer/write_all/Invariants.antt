-- `layers::layer::write_all` meets its contract. The loop's invariant: the entries below so many rows a are written.
-- Assumes nothing.
use Rattle.column_elimination.specs.Columns.{after_last, entry_in}
use Rattle.column_elimination.specs.Written.{Spread}
use Rattle.layers.proofs.layer.write_all.Given as goal

abbrev pub invariant-loop-a : goal.invariant-loop-a
invariant-loop-a l = Spread l.n l.target l.b l.a (λ x y. entry_in (after_last l.src l.last x y)) l.initial.table l.table
