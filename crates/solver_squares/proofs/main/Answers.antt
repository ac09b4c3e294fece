-- `solver_squares::main` is safe: the array that it lends has its length. Nothing here is searched for, since that would write the array out.
-- Assumes nothing.
use Rattle.std.proofs.Common.{ℕ, sym}
use lib.ListN.{length-replicate}
use Rattle.solver_squares.proofs.main.Goals as goal

pub slice_bounds-squares-end : goal.slice_bounds-squares-end
slice_bounds-squares-end c = sym (length-replicate {0} {A = ℕ} 2359296 0)

pub squares-requires : goal.squares-requires
squares-requires c = tt

pub returns : goal.returns
returns c = tt
