-- `job::Job::task` meets its contract: a job that runs has a size within its limits.
-- Assumes nothing.
use mathlib.Core.Path.{sym, ◌∙◌}
use Rattle.job.proofs.Next.{runs_within_lem}
use Rattle.job.proofs.Job.task.Goals as goal

pub invariant_of-shape : goal.invariant_of-shape
invariant_of-shape c =
    let p = runs_within_lem c.args.self (sym c.is_running.ensures ∙ c.if-not-is_running.false) in
    record { narrow = p.0; low = p.1 }
