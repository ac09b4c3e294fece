-- `solver::working::status_of` meets its contract, by the stage.
-- Assumes nothing.
use Rattle.solver.proofs.working.status_of.Goals as goal

pub returns-in-Finished : goal.returns-in-Finished
returns-in-Finished c = rw c.in-Finished.is
