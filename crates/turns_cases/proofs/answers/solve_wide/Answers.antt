-- `turns_cases::answers::solve_wide` is safe: the table has its length. Nothing of the table is searched for, since that would write it out.
-- Assumes nothing.
use Rattle.std.proofs.Common.{ℕ, sym}
use lib.ListN.{length-replicate}
use Rattle.turns_cases.proofs.answers.solve_wide.Goals as goal

pub slice_bounds-lend-end : goal.slice_bounds-lend-end
slice_bounds-lend-end c = sym (length-replicate {0} {A = ℕ} 2097152 3)
