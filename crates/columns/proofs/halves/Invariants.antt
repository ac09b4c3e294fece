-- `columns::halves` meets its contract. The loop's invariant: the halves passed are written.
-- Assumes nothing.
use Prim.Native.Nat.{◌*◌}
use Rattle.column_elimination.specs.Columns.{crossed}
use Rattle.column_elimination.specs.Written.{Wrote}
use Rattle.columns.proofs.halves.Given as goal

abbrev pub invariant-loop-p : goal.invariant-loop-p
invariant-loop-p l = Wrote 0 (l.p * (32 * l.n)) (crossed l.src l.masks (8 * l.n)) l.initial.dst l.dst
