-- `columns::half` meets its contract. The loop's invariant: the runs passed are written.
-- Assumes nothing.
use Prim.Native.Nat.{◌+◌, ◌*◌, ◌/◌, ◌%◌}
use Rattle.column_elimination.specs.Columns.{mix}
use Rattle.column_elimination.specs.Written.{Wrote}
use Rattle.columns.proofs.half.Given as goal

abbrev pub invariant-loop-r : goal.invariant-loop-r
invariant-loop-r l =
    Wrote l.o (l.r * (8 * l.n)) (λ y. mix l.src l.masks (l.i + y) (l.i + 32 * l.n + y) (l.m + 8 * (y / (8 * l.n))) (y % 8)) l.initial.dst l.dst
