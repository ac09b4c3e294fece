-- `job::Checkpoint::resume` meets its contract: numbers that fit have a size within its limits.
-- Assumes nothing.
use mathlib.Core.Path.{sym, ◌∙◌}
use Rattle.job.proofs.Fits.{numbers_at}
use Rattle.job.proofs.Checkpoint.resume.Goals as goal

pub invariant_of-shape : goal.invariant_of-shape
invariant_of-shape c =
    let s = (numbers_at _ _ (sym c.checkpoint_fits.ensures ∙ c.if-not-checkpoint_fits.false)).frame.size in
    record { narrow = s.width; low = s.low }
