-- `columns::part` meets its contract. The loop's invariant: the lanes passed are written.
-- Assumes nothing.
use Prim.Native.Nat.{◌+◌, ◌*◌, ◌%◌}
use Rattle.column_elimination.specs.Columns.{mix}
use Rattle.column_elimination.specs.Written.{Wrote}
use Rattle.columns.proofs.part.Given as goal

abbrev pub invariant-loop-x : goal.invariant-loop-x
invariant-loop-x l = Wrote l.o (8 * l.x) (λ y. mix l.src l.masks (l.i + y) (l.k + y) l.m (y % 8)) l.initial.dst l.dst
