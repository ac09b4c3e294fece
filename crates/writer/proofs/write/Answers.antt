-- `writer::write` meets its contract: each return is the answer that the tests before it lead to.
-- Assumes nothing.
use mathlib.Core.Path.{sym}
use Prim.Native.Nat.{◌+◌, ◌*◌, ◌≤◌}
use native.Mathlib.Nat.{mul-le-mul}
use native.Mathlib.Omega.{arith}
use Rattle.std.proofs.lemmas.Result.{err_from_is_err_and}
use Rattle.board.specs.Boards.{max_width, max_height}
use Rattle.board.proofs.Answers.{turned_away_lem}
use Rattle.board.proofs.Checks.{boarded}
use Rattle.writer.specs.Writing.{write_rule}
use Rattle.writer.proofs.Answers.{write_refused, write_short, write_done, rows_in}
use Rattle.writer.proofs.write.Goals as goal

pub returns-in_err-check_board : goal.returns-in_err-check_board
unfolding write_rule
returns-in_err-check_board c =
    let p = err_from_is_err_and c.from_residual.result c.from_residual.ensures.1 in
    rw (p.1, p.2) (write_refused _ _ _ _ _ (turned_away_lem c.check_board.ensures c.in_err-check_board.was _))

pub overflow_add-length : goal.overflow_add-length
overflow_add-length c = let s = (boarded _ _ _ (sym c.in_ok-check_board.ensures)).size in omega arith

pub overflow_mul-length : goal.overflow_mul-length
overflow_mul-length c =
    let a = c.args in
    let s = (boarded _ _ _ (sym c.in_ok-check_board.ensures)).size in
    let m : a.w + 1 ≤ max_width + 1 = omega arith in
    let l : a.h * (a.w + 1) ≤ max_height * (max_width + 1) = mul-le-mul s.low m in
    omega arith

pub returns-then-text-length : goal.returns-then-text-length
returns-then-text-length c = write_short _ _ _ _ (sym c.in_ok-check_board.ensures) c.if-text-length.true

pub write_rows-requires : goal.write_rows-requires
write_rows-requires c =
    let b = boarded _ _ _ (sym c.in_ok-check_board.ensures) in
    rw (rows_in b) (b.size.some_column, b.bytes.long, c.if-text-length.false)

pub returns : goal.returns
returns c =
    let passes = sym c.in_ok-check_board.ensures in
    rw (c.write_rows.ensures, rows_in (boarded _ _ _ passes)) (write_done _ _ _ _ passes c.if-text-length.false)
