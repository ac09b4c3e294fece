-- `solver::working::work_on` meets its contract. The loop's invariant: the units that are left, from the state now, come to what all come to from the
-- start; and the checks would still pass. The measure: the allowance left.
-- Assumes nothing.
use mathlib.Core.Path.{◌≡◌}
use lib.ListN.{length}
use Rattle.rule.specs.Rule.{Holds, next_under}
use Rattle.service.specs.Service.{works_on}
use Rattle.third_demand.specs.Units.{grid}
use Rattle.third_demand.specs.Lent.{Lent, lent_state}
use Rattle.solver.proofs.working.work_on.Given as goal

abbrev pub invariant-loop-left : goal.invariant-loop-left
invariant-loop-left l =
    (works_on grid l.givens l.left (lent_state l.job l.table l.board) ≡ works_on grid l.givens l.allowance (lent_state l.fn.start l.initial.table l.initial.board)) ×
    (length l.table ≡ length l.initial.table) ×
    (length l.board ≡ length l.initial.board) ×
    Lent l.job l.givens l.table l.board ×
    Holds (next_under l.job.rule) l.next

abbrev pub decreases-loop-left : goal.decreases-loop-left
decreases-loop-left l = l.left
