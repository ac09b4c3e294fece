-- `board_rows::digit` meets its contract: by a shift, and from 2^64 on a number has no digits.
-- Assumes nothing.
use Prim.Native.Nat.{◌<◌, ◌^◌}
use native.Mathlib.Omega.{arith}
use Rattle.board_rows.proofs.Writing.{digit_past}
use Rattle.board_rows.proofs.digit.Goals as goal

pub returns-then-i-ge64 : goal.returns-then-i-ge64
returns-then-i-ge64 c =
    let a = c.args in
    let l : a.n < 2 ^ 64 = omega arith in
    digit_past a.n a.i l c.if-i-ge64.true
