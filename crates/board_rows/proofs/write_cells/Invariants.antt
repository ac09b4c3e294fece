-- `board_rows::write_cells` meets its contract. The loop's invariant: the cells passed are written, the others are as they were.
-- Assumes nothing.
use Rattle.std.specs.Prelude.{◌≡◌, ◌++◌, drop}
use Rattle.board.specs.Lists.{listed}
use Rattle.board_rows.specs.Rows.{row_cell}
use Rattle.board_rows.proofs.write_cells.Given as goal

abbrev pub invariant-loop-k : goal.invariant-loop-k
invariant-loop-k l = l.cells ≡ listed (row_cell l.bits l.row) l.k ++ drop l.k l.initial.cells
