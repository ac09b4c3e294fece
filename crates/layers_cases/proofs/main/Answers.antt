-- `layers_cases::main` is safe: the arrays that it lends have their lengths. Nothing here is searched for, since that would write them out.
-- Assumes nothing.
use Rattle.std.proofs.Common.{ℕ, sym}
use lib.ListN.{length-replicate}
use Rattle.layers_cases.proofs.main.Goals as goal

pub slice_bounds-try_all-end : goal.slice_bounds-try_all-end
slice_bounds-try_all-end c = sym (length-replicate {0} {A = ℕ} 32776 0)

pub slice_bounds-try_all-end-2 : goal.slice_bounds-try_all-end-2
slice_bounds-try_all-end-2 c = sym (length-replicate {0} {A = ℕ} 32776 0)

pub slice_bounds-try_all-end-3 : goal.slice_bounds-try_all-end-3
slice_bounds-try_all-end-3 c = sym (length-replicate {0} {A = ℕ} 2097160 0)

pub try_all-requires : goal.try_all-requires
try_all-requires c = tt

pub returns : goal.returns
returns c = tt
