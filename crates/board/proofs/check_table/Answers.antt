-- `board::check_table` meets its contract: a shift by 2 w leaves the layers that the table has room for, and from width 32 on none has.
-- Assumes nothing.
use native.Mathlib.Omega.{arith}
use borrow.Author.Tests.{le-leb, lt-leb}
use Prim.Native.Nat.{◌<◌, ◌^◌}
use lib.ListN.{length}
use Rattle.board.specs.Checks.{table_size}
use Rattle.board.proofs.Powers.{table_none, table_wide, shift_short, shift_long}
use Rattle.board.proofs.check_table.Goals as goal

pub returns-then-h-eq0 : goal.returns-then-h-eq0
returns-then-h-eq0 c =
    let a = c.args in
    rw (c.if-h-eq0.true, le-leb (table_size a.w 0) (length a.table.now) (table_none a.w (length a.table.now)))

pub returns-then-w-gt31 : goal.returns-then-w-gt31
returns-then-w-gt31 c =
    let l : length c.args.table.now < 2 ^ 64 = omega arith in
    rw (lt-leb _ _ (table_wide c.args.w c.args.h c.if-w-gt31.true (omega (arith, c.if-h-eq0.false)) l))

pub returns-then-n-w : goal.returns-then-n-w
returns-then-n-w c = simp (lt-leb _ _ (shift_short _ _ _ c.if-n-w.true))

pub returns : goal.returns
returns c = simp (le-leb _ _ (shift_long _ _ _ c.if-n-w.false))
