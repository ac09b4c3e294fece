-- `runner::run` meets its contract. The loop's invariant: a list of working calls comes to the state now, with the job unfinished. The measure: the
-- units that a job with a best board has left.
-- Assumes nothing.
use mathlib.Core.Path.{◌≡◌}
use Prim.Native.Nat.{◌-◌}
use lib.ListN.{length}
use Rattle.job_kind.specs.Kinds.{board_length}
use Rattle.third_demand.specs.Lent.{lent_state}
use Rattle.runner.proofs.Turns.{Going}
use Rattle.runner.proofs.run.Given as goal

abbrev pub invariant-loop-score : goal.invariant-loop-score
invariant-loop-score l =
    Going l.initial.job.kind l.initial.job.rule l.initial.job.width l.initial.job.height l.givens l.initial.table l.initial.board (lent_state l.job l.table l.board) × (length l.table ≡ length l.initial.table) × (length l.board ≡ length l.initial.board)

abbrev pub decreases-loop-score : goal.decreases-loop-score
decreases-loop-score l = board_length l.initial.job.kind l.initial.job.width l.initial.job.height - l.job.units
