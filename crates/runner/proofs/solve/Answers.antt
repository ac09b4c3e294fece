-- `runner::solve` meets its contract: what opening refuses it refuses, and a job that opening hands out it runs.
-- Assumes nothing.
use Rattle.std.proofs.lemmas.Result.{err_from_is_err_and}
use Rattle.runner.proofs.Openings.{refused_solves, opened_ready, run_solves}
use Rattle.runner.proofs.solve.Goals as goal

pub run-requires : goal.run-requires
run-requires c = opened_ready c.open.ensures c.in_ok-job.was

pub returns-in_err-job : goal.returns-in_err-job
returns-in_err-job c =
    let p = err_from_is_err_and c.from_residual.result c.from_residual.ensures.1 in
    rw (p.1, p.2) (refused_solves c.open.ensures c.in_err-job.was _ _)

pub returns : goal.returns
returns c = run_solves c.open.ensures c.in_ok-job.was c.run.ensures
