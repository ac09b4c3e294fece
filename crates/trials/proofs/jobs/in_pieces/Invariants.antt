-- `trials::jobs::in_pieces` meets its contract. The invariant: before the first call the job is the one that came.
-- Assumes nothing.
use Rattle.std.proofs.Common.{◌≡◌, ℕ}
use Rattle.trials.proofs.jobs.in_pieces.Given as goal

abbrev pub invariant-loop-allowance : goal.invariant-loop-allowance
invariant-loop-allowance l = ◌≡◌ {A = ℕ} l.allowance-index 0 → l.last ≡ l.fn.job
