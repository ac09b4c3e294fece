-- Document 01, "Grid, row word, givens", and Req 03: a row's cells as bytes of a board, from the row's number. Row r, counted from 0, is document
-- 01's row r + 1; column k + 1 is counted by k.
-- Assumes nothing.
use Rattle.std.specs.Prelude.{cond, List, ℕ, zero, suc, ◌+◌, ◌*◌, ◌-◌, ltb, set}
use Rattle.life.specs.Rows.{row_number, digit_at, digit_in}

-- What a row number's cells are: the cell in column k + 1 of the row that number n stands for. The number has so many binary digits, and they are
-- the row's cells from the left, leftmost most significant; a row of up to twice as many cells goes on with their reflection.
abbrev pub row_cell : ℕ → ℕ → ℕ → ℕ
row_cell bits n k = cond (ltb k bits) (digit_in bits n (k + 1)) (digit_at n (k - bits))

-- the board with the first m of a row's cells written from a place on
unfoldable pub written : (ℕ → ℕ) → List ℕ → ℕ → ℕ → List ℕ
written cells board at zero = board
written cells board at (suc m) = set (written cells board at m) (at + m) (cells m)

-- the board once row r, of w cells, is the one that number n stands for
abbrev pub put_row : ℕ → ℕ → ℕ → ℕ → List ℕ → List ℕ
put_row bits w r n board = written (row_cell bits n) board (r * w) w

-- the number of row r: its first cells, one for each binary digit, read as digits
abbrev pub read_row : ℕ → ℕ → ℕ → List ℕ → ℕ
read_row bits w r board = row_number board (r * w) bits
