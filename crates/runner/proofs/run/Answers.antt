-- `runner::run` meets its contract. The loop's invariant: a list of working calls comes to the state now, with the job unfinished. The measure: the
-- units that a job with a best board has left.
-- Assumes nothing.
use Rattle.std.proofs.lemmas.Result.{err_from_is_err_and}
use mathlib.Core.Path.{refl, ◌∙◌, ap}
use native.Mathlib.Omega.{arith}
use Rattle.std.specs.Prelude.{Ok}
use Rattle.solver.specs.Working.{status_says}
use Rattle.runner.proofs.Turns.{ready_begins, turn_goes_on, turn_ends}
use Rattle.runner.proofs.run.Goals as goal

pub loop-score-init : goal.loop-score-init
loop-score-init c = (ready_begins c.requires, refl, refl)

pub loop-score-smaller : goal.loop-score-smaller
loop-score-smaller c =
    let o = turn_goes_on c.requires c.loop-score.invariant.0 _ c.work-worked.ensures.is (omega arith) (ap status_says (c.in_ok-worked.was ∙ ap Ok c.in-Unfinished.is)) in
    omega (arith, o.more, o.going.below)

pub loop-score-preserved : goal.loop-score-preserved
loop-score-preserved c =
    let l = c.loop-score in (
      (turn_goes_on c.requires l.invariant.0 _ c.work-worked.ensures.is (omega arith) (ap status_says (c.in_ok-worked.was ∙ ap Ok c.in-Unfinished.is))).going,
      c.work-worked.auto.table ∙ l.invariant.1,
      c.work-worked.auto.board ∙ l.invariant.2,
    )

pub returns-in-Finished : goal.returns-in-Finished
returns-in-Finished c =
    turn_ends c.requires c.loop-score.invariant.0 _ c.work-worked.ensures.is (ap status_says (c.in_ok-worked.was ∙ ap Ok c.in-Finished.is))

pub returns-in-Infeasible : goal.returns-in-Infeasible
returns-in-Infeasible c =
    turn_ends c.requires c.loop-score.invariant.0 _ c.work-worked.ensures.is (ap status_says (c.in_ok-worked.was ∙ ap Ok c.in-Infeasible.is))

pub returns-in_err-worked : goal.returns-in_err-worked
returns-in_err-worked c =
    let p = err_from_is_err_and c.from_residual.result c.from_residual.ensures.1 in
    rw (p.1, p.2) (turn_ends c.requires c.loop-score.invariant.0 _ c.work-worked.ensures.is (ap status_says c.in_err-worked.was))
