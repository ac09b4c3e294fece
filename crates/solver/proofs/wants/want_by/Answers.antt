-- `solver::wants::want_by` meets its contract.
-- Assumes nothing.
use Rattle.solver.proofs.wants.want_by.Goals as goal

pub returns : goal.returns
returns c = rw (c.has_target.ensures, c.halves.ensures) at c.want_of.ensures
