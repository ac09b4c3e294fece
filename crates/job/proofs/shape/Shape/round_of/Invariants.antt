-- `job::shape::Shape::round_of` meets its contract. The loop's invariant: the unit is `place` units after the start of round `rows`.
-- Assumes nothing.
use mathlib.Core.Path.{◌≡◌}
use Prim.Native.Nat.{◌+◌}
use Rattle.job_kind.specs.Kinds.{round_start}
use Rattle.job.proofs.shape.Shape.round_of.Given as goal

abbrev pub invariant-loop-rows : goal.invariant-loop-rows
invariant-loop-rows l = l.units ≡ round_start l.self.kind l.self.width l.self.height l.rows + l.place
