-- Req 03, of what `write_row` leaves by its contract, for every width and every number of binary digits: no byte outside the row changes, each byte
-- of it is its cell, and the row reads back as its number.
-- Assumes nothing.
use Rattle.std.specs.Prelude.{◌≡◌, List, ℕ, suc, ◌+◌, ◌*◌, ◌-◌, ◌^◌, ◌≤◌, ◌<◌, length, get_or}
use Rattle.life.specs.Rows.{row_of}
use Rattle.elimination.specs.Rows.{OnlyRow}
use Rattle.board_rows.specs.Rows.{row_cell, read_row}
use Rattle.board_rows.specs.Calls.{row_writes}

-- no byte outside that row changes, and the board's length stays
abbrev pub OnlyThatRow : Type 0
OnlyThatRow = (bits w r n : ℕ) (board board' : List ℕ) → board' ≡ row_writes bits w r n board → OnlyRow w r board board'

-- the row's w bytes are the cells that its number stands for
abbrev pub CellsWritten : Type 0
CellsWritten =
    (bits w r n : ℕ) (board board' : List ℕ) → board' ≡ row_writes bits w r n board → suc r * w ≤ length board
    → (k : ℕ) → k < w → get_or board' (r * w + k) 0 ≡ row_cell bits n k

-- the row reads back as its number: its first cells, one for each binary digit, and so all of them where there are no more
abbrev pub RowReadsBack : Type 0
RowReadsBack =
    (bits w r n : ℕ) (board board' : List ℕ) → board' ≡ row_writes bits w r n board → suc r * w ≤ length board → bits ≤ w → n < 2 ^ bits
    → read_row bits w r board' ≡ n

-- where a number has a binary digit for each cell, that is the number of the board's row r + 1
abbrev pub ReadsAsRow : Type 0
ReadsAsRow = (w h r : ℕ) (board : List ℕ) → r < h → row_of w h board (suc r) ≡ read_row w w r board

-- where a row has two cells for each binary digit, it equals its own left-right reflection
abbrev pub RowReflects : Type 0
RowReflects = (bits n k : ℕ) → k < 2 * bits → row_cell bits n (2 * bits - (k + 1)) ≡ row_cell bits n k
