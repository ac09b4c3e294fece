-- `board_rows::write_row` meets its contract: a row lies within the board exactly where the board has room for more rows than are above it.
-- Assumes nothing.
use mathlib.Core.Path.{◌≡◌, sym, ◌∙◌}
use Prim.Native.Nat.{suc, ◌+◌, ◌*◌, ◌-◌, ◌≤◌}
use native.Mathlib.Omega.{arith}
use lib.ListN.{length, take, drop, length-drop}
use lib.Seq.{length-take-le}
use Rattle.board_rows.specs.Rows.{row_cell}
use Rattle.board_rows.proofs.Writing.{no_room, has_room, writes_none, writes_outside, writes_inside, written_part}
use Rattle.board_rows.proofs.write_row.Goals as goal

pub returns-then-w-eq0 : goal.returns-then-w-eq0
returns-then-w-eq0 c = let a = c.args in rw c.if-w-eq0.true (sym (writes_none a.bits a.r a.row a.board.now))

pub returns-then-board-w : goal.returns-then-board-w
returns-then-board-w c =
    let a = c.args in
    sym (writes_outside a.bits a.r a.row a.board.now a.w (no_room c.if-w-eq0.false c.if-board-w.true))

pub returns : goal.returns
returns c =
    let a = c.args in
    let room : suc a.r * a.w ≤ length a.board.now = has_room c.if-w-eq0.false c.if-board-w.false in
    let e : a.r * a.w + a.w - a.r * a.w ≡ a.w = omega arith in
    let n : length (take a.w (drop (a.r * a.w) a.board.now)) ≡ a.w =
    length-take-le a.w (drop (a.r * a.w) a.board.now) (omega (arith, length-drop (a.r * a.w) a.board.now)) in
    rw (c.write_cells.ensures, e, n)
    (written_part (row_cell a.bits a.row) a.board.now (a.r * a.w) a.w (omega arith) ∙ sym (writes_inside a.bits a.r a.row a.board.now a.w room))
