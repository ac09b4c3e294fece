-- `board_rows::write_cells` meets its contract: a turn writes the next cell.
-- Assumes nothing.
use Prim.Native.Nat.{◌<◌}
use native.Mathlib.Omega.{arith}
use lib.ListN.{length}
use Rattle.board.proofs.Lists.{listed_none, listed_more}
use Rattle.board_rows.specs.Rows.{row_cell}
use Rattle.board_rows.proofs.write_cells.Goals as goal

pub loop-k-init : goal.loop-k-init
loop-k-init c = listed_none _ _

pub loop-k-preserved : goal.loop-k-preserved
loop-k-preserved c =
    let a = c.args in
    let l : c.loop-k.k < length a.cells.now = omega arith in
    rw (c.loop-k.invariant, c.cell_at.ensures) (listed_more (row_cell a.bits a.row) a.cells.now c.loop-k.k l)
