-- `plaintext::scan::measure` meets its contract: each line is the first of those left.
-- Assumes nothing.
use native.Mathlib.Omega.{arith}
use Rattle.std.proofs.lemmas.Result.{err_from_is_err_and}
use Rattle.plaintext.proofs.Lines.{judged_few}
use Rattle.plaintext.proofs.Scans.{told_none, passed_none, passed_comment, passed_row, passed_bad, passed_end}
use Rattle.plaintext.proofs.scan.measure.Goals as goal

pub loop-line-init : goal.loop-line-init
loop-line-init c =
    let a = c.args in
    (tt, tt, rw (c.into_iter-line-iterator.ensures.into_iter_gives, c.new-line-items.ensures) (passed_none _ _ (judged_few a.text.now a.at)))

pub overflow_add-height : goal.overflow_add-height
overflow_add-height c = omega (arith, (rw c.in-Some.ensures.steps.judges at c.loop-line.invariant.2).few)

pub returns-in_err-row : goal.returns-in_err-row
returns-in_err-row c =
    let p = err_from_is_err_and c.from_residual.result c.from_residual.ensures.1 in
    let bad = c.in_err-row.ensures in
    rw (p.1, p.2, bad.1, passed_bad _ _ _ _ _ _ (rw (c.in-Some.ensures.steps.judges, bad.2) at c.loop-line.invariant.2))

pub loop-line-preserved-in-Some-2 : goal.loop-line-preserved-in-Some-2
loop-line-preserved-in-Some-2 c =
    let row = rw c.in-Some-2.is at c.in_ok-row.ensures in
    (tt, tt, rw c.max-width.ensures (passed_row _ _ _ _ _ _ (rw (c.in-Some.ensures.steps.judges, row) at c.loop-line.invariant.2)))

pub loop-line-preserved : goal.loop-line-preserved
loop-line-preserved c =
    (tt, tt, passed_comment _ _ _ _ _ (rw (c.in-Some.ensures.steps.judges, told_none _ c.in_default.not-Some c.in_ok-row.ensures) at c.loop-line.invariant.2))

pub returns : goal.returns
returns c = passed_end _ _ _ _ (rw c.in-None.ensures.steps.judges.0 at c.loop-line.invariant.2)
