-- `columns::eight` meets its contract. The loop's invariant: the lanes passed are written.
-- Assumes nothing.
use Rattle.std.specs.Prelude.{◌≡◌, ℕ, ◌<◌}
use Rattle.column_elimination.specs.Written.{Wrote}
use Rattle.columns.proofs.eight.Given as goal

abbrev pub invariant-loop-l : goal.invariant-loop-l
invariant-loop-l g l = (f : ℕ → ℕ) → ((i v : ℕ) → i < 8 → goal.F-post g l.lane i v → v ≡ f i) → Wrote l.o l.l f l.initial.dst l.dst
