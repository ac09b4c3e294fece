-- `job::units::Due::after_none` meets its contract: its units fit 64 bits.
-- Assumes nothing.
use native.Mathlib.Omega.{arith}
use Rattle.job.proofs.Next.{units_few}
use Rattle.job.proofs.units.Due.after_none.Goals as goal

pub overflow_add-job : goal.overflow_add-job
overflow_add-job c = let D = c.args.self in omega (arith, units_few D.job.kind D.narrow D.low D.left)
