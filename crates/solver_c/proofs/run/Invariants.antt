-- `solver_c::run` meets its contract. The loop's invariant: the last answer, the job, the table and the board are those of k calls.
-- Assumes nothing.
use mathlib.Core.Path.{◌≡◌}
use Prim.Native.Nat.{◌≤◌}
use lib.ListN.{length}
use Rattle.solver.specs.Working.{status_says}
use Rattle.third_demand.specs.Lent.{lent_state}
use Rattle.solver_c.specs.InCalls.{calls_of}
use Rattle.solver_c.proofs.run.Given as goal

abbrev pub invariant-loop-k : goal.invariant-loop-k
invariant-loop-k l =
    (record { answer = status_says l.status; state = lent_state l.job l.table l.board } ≡ calls_of l.givens l.allowance l.k (lent_state l.initial.job l.initial.table l.initial.board)) × (l.k ≤ l.calls) × (length l.table ≡ length l.initial.table) × (length l.board ≡ length l.initial.board)
