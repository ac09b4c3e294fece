-- `job::shape::Shape::work_before` meets its contract: the whole table is filled before row 1 alone.
-- Assumes nothing.
use mathlib.Core.Path.{sym, ◌∙◌}
use native.Mathlib.Omega.{arith}
use Rattle.job_kind.proofs.Shapes.{work_later}
use Rattle.job.proofs.shape.Shape.work_before.Goals as goal

pub returns-then-r-ne0 : goal.returns-then-r-ne0
returns-then-r-ne0 c =
    let S = c.args.self in
    (work_later S.kind S.width S.height c.args.r (sym c.refills.ensures ∙ c.if-refills.false) c.if-r-ne0.true, omega arith)
