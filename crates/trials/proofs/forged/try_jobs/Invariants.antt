-- `trials::forged::try_jobs` meets its contract. The invariant: no more differences than jobs so far.
-- Assumes nothing.
use Rattle.std.proofs.Common.{◌≤◌}
use Rattle.trials.proofs.forged.try_jobs.Given as goal

abbrev pub invariant-loop-k : goal.invariant-loop-k
invariant-loop-k l = l.wrong ≤ l.k
