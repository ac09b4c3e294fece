-- The theorems of a row that is written, and that rows stand in a board so.
-- Assumes nothing.
use mathlib.Core.Path.{◌≡◌, refl, sym, ◌∙◌, ap}
use mathlib.Core.Bool.{Bool, true, false, cond}
use mathlib.Core.List.{List}
use mathlib.Core.Logic.{⊎_elim}
use Prim.Native.Nat.{ℕ, suc, ◌+◌, ◌*◌, ◌-◌, ◌^◌, ◌≤◌, ◌<◌}
use native.Mathlib.Omega.{arith}
use lib.Dec.{leb}
use lib.ListN.{length}
use Rattle.board.proofs.Tests.{among_yes}
use Rattle.life.specs.Rows.{row_of, digit_at}
use Rattle.elimination.specs.Rows.{OnlyRow, RowWriter}
use Rattle.std.proofs.lemmas.Bool.{cases_lt}
use Rattle.board_rows.specs.Rows.{row_cell, put_row, read_row}
use Rattle.board_rows.specs.Calls.{row_writes}
use Rattle.board_rows.specs.Theorems.{OnlyThatRow, CellsWritten, RowReadsBack, ReadsAsRow, RowReflects}
use Rattle.board_rows.proofs.Writing.{written_length, written_before, written_after, written_cell, cell_left, cell_right, same_number, reads_back, writes_inside}

only_row : (bits w r n : ℕ) (board : List ℕ) → OnlyRow w r board (put_row bits w r n board)
only_row bits w r n board = record {
  size = written_length (row_cell bits n) board (r * w) w;
  above = λ p l. written_before (row_cell bits n) board (r * w) w p l;
  below = λ p l. written_after (row_cell bits n) board (r * w) w p (omega arith);
}

pub only_that_row : OnlyThatRow
unfolding row_writes
only_that_row bits w r n board board' e = rw e (go (leb (suc r * w) (length board)))
  where
    go : (b : Bool) → OnlyRow w r board (cond b (put_row bits w r n board) board)
    go true = only_row bits w r n board
    go false = record { size = refl; above = λ p l. refl; below = λ p l. refl }

pub cells_written : CellsWritten
cells_written bits w r n board board' e room k l = rw (e, writes_inside bits r n board w room) (written_cell (row_cell bits n) board (r * w) w k l (omega arith))

pub row_reads_back : RowReadsBack
row_reads_back bits w r n board board' e room l small = rw (e, writes_inside bits r n board w room) (reads_back bits w r n board l small room)

pub reads_as_row : ReadsAsRow
unfolding row_of
reads_as_row w h r board l = let e : suc r - 1 ≡ r = omega arith in rw (among_yes h (suc r) (omega arith) l, e)

pub row_reflects : RowReflects
row_reflects bits n k l =
    let j = 2 * bits - (k + 1) in
    ⊎_elim
    (λ (q : k < bits).
    let e : j - bits ≡ bits - (k + 1) = omega arith in
    cell_right bits n j (omega arith) ∙ ap (digit_at n) e ∙ sym (cell_left bits n k q))
    (λ (q : bits ≤ k).
    let e : bits - (j + 1) ≡ k - bits = omega arith in
    cell_left bits n j (omega arith) ∙ ap (digit_at n) e ∙ sym (cell_right bits n k q))
    (cases_lt k bits)

-- ---- so rows stand in a board, each in its own bytes
pub row_writer : (bits w : ℕ) → bits ≤ w → RowWriter w (2 ^ bits) (put_row bits w) (read_row bits w)
row_writer bits w l = record {
  only = only_row bits w;
  back = λ r c board small room. reads_back bits w r c board l small room;
  alike = λ r board other e. same_number board other (r * w) bits (λ k q. e (r * w + k) (omega arith) (omega arith));
}
