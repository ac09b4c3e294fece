-- What `write_row` leaves in the board, for every input.
-- Assumes nothing.
use Rattle.std.specs.Prelude.{cond, List, ℕ, suc, ◌*◌, leb, length}
use Rattle.board_rows.specs.Rows.{put_row}

-- the board afterwards: the row is written; where it doesn't lie within the board, all is as it was
unfoldable pub row_writes : ℕ → ℕ → ℕ → ℕ → List ℕ → List ℕ
row_writes bits w r n board = cond (leb (suc r * w) (length board)) (put_row bits w r n board) board
