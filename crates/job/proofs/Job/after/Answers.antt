-- `job::Job::after` meets its contract, by the round of the job's next unit.
-- Assumes nothing.
use mathlib.Core.Path.{sym, ◌∙◌}
use Prim.Native.Nat.{◌≤◌}
use native.Mathlib.Omega.{arith}
use Rattle.job.proofs.Rounds.{fills_on, units_on, rows_left}
use Rattle.job.proofs.Next.{runs_within_lem, after_never, after_fills_lem, after_chooses, after_spent, rows_early}
use Rattle.job.proofs.Job.after.Goals as goal

pub returns-then-not-is_running : goal.returns-then-not-is_running
returns-then-not-is_running c = after_never _ (sym c.is_running.ensures ∙ c.if-not-is_running.true) _

pub invariant_of-shape : goal.invariant_of-shape
invariant_of-shape c =
    let p = runs_within_lem c.args.self (sym c.is_running.ensures ∙ c.if-not-is_running.false) in
    record { narrow = p.0; low = p.1 }

-- its units fit 64 bits
pub after_entries-requires-clause-no_overflow : goal.after_entries-requires-clause-no_overflow
after_entries-requires-clause-no_overflow c =
    let p = runs_within_lem c.args.self (sym c.is_running.ensures ∙ c.if-not-is_running.false) in
    let some : 1 ≤ c.round_of-x.result.left = omega (arith, c.if-x-ne0.true) in
    units_on c.round_of-x.ensures p.0 p.1 (omega arith) 1 some

pub after_entries-requires-clause-more_is_fill : goal.after_entries-requires-clause-more_is_fill
after_entries-requires-clause-more_is_fill c =
    let some : 1 ≤ c.round_of-x.result.left = omega (arith, c.if-x-ne0.true) in
    sym (fills_on c.round_of-x.ensures 1 some)

pub returns-then-x-ne0 : goal.returns-then-x-ne0
returns-then-x-ne0 c =
    c.after_entries.ensures ∙ after_fills_lem _ (sym c.is_running.ensures ∙ c.if-not-is_running.false) c.round_of-x.ensures _ c.if-x-ne0.true

pub invariant_of-due : goal.invariant_of-due
invariant_of-due c =
    let p = runs_within_lem c.args.self (sym c.is_running.ensures ∙ c.if-not-is_running.false) in
    let R = c.round_of-x.ensures in
    record { narrow = p.0; low = p.1; left = rows_left R c.if-x-self.true; early = rows_early c.args.self R c.if-x-ne0.false c.if-x-self.true }

pub returns-then-x-self : goal.returns-then-x-self
returns-then-x-self c =
    c.after.ensures
    ∙ after_chooses _ (sym c.is_running.ensures ∙ c.if-not-is_running.false) c.round_of-x.ensures _ c.if-x-ne0.false c.if-x-self.true

pub returns : goal.returns
returns c = after_spent _ (sym c.is_running.ensures ∙ c.if-not-is_running.false) c.round_of-x.ensures _ c.if-x-self.false
