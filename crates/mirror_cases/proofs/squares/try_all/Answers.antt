-- `mirror_cases::squares::try_all` is safe: the array that it lends has its length. Nothing here is searched for, since that would write the array out.
-- Assumes nothing.
use Rattle.std.proofs.Common.{ℕ, sym}
use lib.ListN.{length-replicate}
use Rattle.mirror_cases.proofs.squares.try_all.Goals as goal

pub slice_bounds-squares-end : goal.slice_bounds-squares-end
slice_bounds-squares-end c = sym (length-replicate {0} {A = ℕ} 1048576 0)
