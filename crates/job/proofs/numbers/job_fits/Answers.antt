-- `job::numbers::job_fits` meets its contract: numbers that fit have a size within its limits.
-- Assumes nothing.
use mathlib.Core.Path.{◌≡◌, sym, ◌∙◌}
use mathlib.Core.Bool.{true}
use Rattle.job.specs.Jobs.{numbers_of, checkpoint_fits}
use Rattle.job.proofs.Fits.{numbers_at}
use Rattle.job.proofs.numbers.job_fits.Goals as goal

pub invariant_of-shape : goal.invariant_of-shape
invariant_of-shape c =
    let j = c.args.job in
    let e : checkpoint_fits j.kind (numbers_of j) ≡ true = rw c.numbers_of.ensures at (sym c.checkpoint_fits.ensures ∙ c.if-not-checkpoint_fits.false) in
    let s = (numbers_at _ _ e).frame.size in
    record { narrow = s.width; low = s.low }
