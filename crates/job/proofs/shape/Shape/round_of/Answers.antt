-- `job::shape::Shape::round_of` meets its contract: each round starts where the one before it ends.
-- Assumes nothing.
use native.Mathlib.Numerals.{add-one}
use native.Mathlib.Omega.{arith}
use Rattle.job_kind.proofs.Shapes.{shape_rounds}
use Rattle.job.proofs.shape.Shape.round_of.Goals as goal

pub loop-rows-init : goal.loop-rows-init
loop-rows-init c = let S = c.args.self in omega (arith, (shape_rounds S.width S.height S.kind).scheduled.first)

pub loop-rows-preserved : goal.loop-rows-preserved
loop-rows-preserved c =
    let S = c.args.self in
    let r = c.loop-rows.rows in
    rw (add-one r) (omega (arith, (shape_rounds S.width S.height S.kind).scheduled.next r))
