-- `plaintext::read_at` meets its contract: each return is the answer that the tests before it lead to.
-- Assumes nothing.
use mathlib.Core.Path.{sym}
use Rattle.std.proofs.lemmas.Result.{err_from_is_err_and}
use Rattle.board.proofs.Answers.{turned_away_lem, passed_on}
use Rattle.plaintext.proofs.Answers.{measured_bad, measured_size, read_bad, size_refused, read_short, read_done}
use Rattle.plaintext.proofs.read_at.Goals as goal

pub returns-in_err-size : goal.returns-in_err-size
returns-in_err-size c =
    let p = err_from_is_err_and c.from_residual.result c.from_residual.ensures.1 in
    let bad = measured_bad _ _ _ c.in_err-size.ensures in
    rw (p.1, p.2, bad.1) (read_bad _ _ _ bad.0 bad.2)

pub returns-in_err-check_height : goal.returns-in_err-check_height
returns-in_err-check_height c =
    let r = c.from_residual-in_err-check_height in
    let p = err_from_is_err_and r.result r.ensures.1 in
    rw (p.1, p.2)
    (size_refused _ _ _ _ _ (measured_size _ _ _ c.in_ok-size.ensures) _ (turned_away_lem c.check_height.ensures c.in_err-check_height.was _))

pub returns-in_err-check_width : goal.returns-in_err-check_width
returns-in_err-check_width c =
    let r = c.from_residual-in_err-check_width in
    let p = err_from_is_err_and r.result r.ensures.1 in
    rw (p.1, p.2)
    (size_refused _ _ _ _ _ (measured_size _ _ _ c.in_ok-size.ensures) _
    (passed_on c.check_height.ensures c.in_ok-check_height.was (turned_away_lem c.check_width.ensures c.in_err-check_width.was _)))

pub returns-then-cells-size : goal.returns-then-cells-size
returns-then-cells-size c =
    read_short _ _ _ _ _ (measured_size _ _ _ c.in_ok-size.ensures) (sym c.in_ok-check_height.ensures) (sym c.in_ok-check_width.ensures) c.if-cells-size.true

pub returns : goal.returns
returns c =
    rw c.fill.ensures
    (read_done _ _ _ _ _ (measured_size _ _ _ c.in_ok-size.ensures) (sym c.in_ok-check_height.ensures) (sym c.in_ok-check_width.ensures) c.if-cells-size.false)
