-- `job::Job::after_entries` meets its contract, by the entries that are left in the round of the job's next unit.
-- Assumes nothing.
use mathlib.Core.Path.{sym, ◌∙◌}
use native.Mathlib.Omega.{arith}
use Rattle.job.proofs.Rounds.{fills_on, units_on}
use Rattle.job.proofs.Next.{runs_within_lem, entries_never, entries_left, entries_few}
use Rattle.job.proofs.Job.after_entries.Goals as goal

pub returns-then-not-is_running : goal.returns-then-not-is_running
returns-then-not-is_running c = entries_never _ _ (sym c.is_running.ensures ∙ c.if-not-is_running.true)

pub returns-then-x-count : goal.returns-then-x-count
returns-then-x-count c = entries_few _ _ (sym c.is_running.ensures ∙ c.if-not-is_running.false) c.round_of-x.ensures c.if-x-count.true

pub invariant_of-shape : goal.invariant_of-shape
invariant_of-shape c =
    let p = runs_within_lem c.args.self (sym c.is_running.ensures ∙ c.if-not-is_running.false) in
    record { narrow = p.0; low = p.1 }

-- its units fit 64 bits
pub after_entries-requires-clause-no_overflow : goal.after_entries-requires-clause-no_overflow
after_entries-requires-clause-no_overflow c =
    let p = runs_within_lem c.args.self (sym c.is_running.ensures ∙ c.if-not-is_running.false) in
    units_on c.round_of-x.ensures p.0 p.1 (omega arith) _ c.if-x-count.false

pub after_entries-requires-clause-more_is_fill : goal.after_entries-requires-clause-more_is_fill
after_entries-requires-clause-more_is_fill c = sym (fills_on c.round_of-x.ensures _ c.if-x-count.false)

pub returns : goal.returns
returns c = c.after_entries.ensures ∙ entries_left _ _ (sym c.is_running.ensures ∙ c.if-not-is_running.false) c.round_of-x.ensures c.if-x-count.false
