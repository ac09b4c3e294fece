-- `solver::working::work_on` meets its contract: from each state on, what is left comes to what all comes to.
-- Assumes nothing.
use mathlib.Core.Path.{sym, ◌∙◌, ap}
use Prim.Native.Nat.{◌+◌, ◌^◌, ◌≤◌}
use native.Mathlib.Omega.{arith}
use Rattle.std.specs.Prelude.{option_map, Some}
use Rattle.job_kind.specs.Kinds.{kind_digits}
use Rattle.job.specs.Jobs.{task_of}
use Rattle.job.proofs.Next.{due_at}
use Rattle.third_demand.proofs.UnitLaws.{lent_entry, lent_read}
use Rattle.third_demand.proofs.Agreement.{filled}
use Rattle.solver.proofs.Steps.{onward_filled, onward_moved, works_turned, works_spent, works_over}
use Rattle.solver.proofs.working.work_on.Goals as goal
use Rattle.solver.proofs.working.work_on.Goals.{else-loop-left-test, then-loop-left-test+in-None}

pub entries_now-count-requires : goal.entries_now-count-requires
entries_now-count-requires c =
    let D = due_at _ _ (sym c.task.ensures ∙ ap (option_map task_of) (c.in-Some-Fill.is ∙ ap Some c.in-Some-Fill.field-0-is)) in
    rw c.row_digits.ensures (lent_entry c.loop-left.invariant.3 D.running D.plans)

pub loop-left-smaller-in-Some-Fill : goal.loop-left-smaller-in-Some-Fill
loop-left-smaller-in-Some-Fill c =
    let D = due_at _ _ (sym c.task.ensures ∙ ap (option_map task_of) (c.in-Some-Fill.is ∙ ap Some c.in-Some-Fill.field-0-is)) in
    let E = (lent_entry c.loop-left.invariant.3 D.running D.plans).1 in
    let e = rw c.row_digits.ensures at c.entries_now-count.ensures in
    omega (arith, e, E, c.loop-left-test.true)

pub loop-left-preserved-in-Some-Fill : goal.loop-left-preserved-in-Some-Fill
loop-left-preserved-in-Some-Fill c =
    let l = c.loop-left in
    let x = c.in-Some-Fill in
    let G = c.grid_of.ensures in
    let D = due_at _ _ (sym c.task.ensures ∙ ap (option_map task_of) (x.is ∙ ap Some x.field-0-is)) in
    let E = (lent_entry l.invariant.3 D.running D.plans).1 in
    let e = rw c.row_digits.ensures at c.entries_now-count.ensures in
    let inside : x.entry + c.entries_now-count.result ≤ 4 ^ kind_digits l.job.kind l.job.width = omega (arith, e, E) in
    let allowed : c.entries_now-count.result ≤ l.left = omega (arith, e) in
    let R = lent_read l.invariant.3 D.running D.plans _ inside in
    let O = onward_filled _ _ _ _ l.invariant.3 D.running _ _ _ _ D.plans _ inside _ c.after_entries-job.ensures _
    (rw (G.0, G.1, G.2, G.3, G.4) at c.fill.ensures ∙ filled _ _ l.invariant.4 l.job.kind _ _ _ _ _ _ _ _ _ R.0 R.1) _ allowed in (
      O.works ∙ l.invariant.0,
      c.fill.auto.table ∙ l.invariant.1,
      l.invariant.2,
      O.lent,
      rw O.rule l.invariant.4,
    )

pub choose-requires-clause-chooses : goal.choose-requires-clause-chooses
choose-requires-clause-chooses c =
    let D = due_at _ _ (sym c.task.ensures ∙ ap (option_map task_of) (c.in-Some-Choose.is ∙ ap Some c.in-Some-Choose.field-0-is)) in
    record { lent = c.loop-left.invariant.3; running = D.running; task = D.plans }

pub returns-in_default : goal.returns-in_default
returns-in_default c = works_turned _ _ _ _ _ _ _ c.choose.ensures c.in_default.is _ c.loop-left-test.true ∙ c.loop-left.invariant.0

pub loop-left-preserved : goal.loop-left-preserved
loop-left-preserved c =
    let l = c.loop-left in
    let O = onward_moved _ _ _ _ _ _ _ c.choose.ensures _ c.in-Some.is l.invariant.3 _ c.loop-left-test.true in (
      O.works ∙ l.invariant.0,
      l.invariant.1,
      c.choose.auto.board ∙ l.invariant.2,
      O.lent,
      rw O.rule l.invariant.4,
    )

pub returns : goal.returns
returns c =
    let l = c.loop-left in
    elim c.loop-left-test.branch [
      | else-loop-left-test w ↦ works_spent _ _ _ _ _ c.status_of.ensures _ w.loop-left-test.false ∙ l.invariant.0
      | then-loop-left-test+in-None w ↦
          works_over _ _ _ _ l.invariant.3.taken (sym w.task.ensures ∙ ap (option_map task_of) w.in-None.is) _ c.status_of.ensures _ ∙ l.invariant.0
    ]
