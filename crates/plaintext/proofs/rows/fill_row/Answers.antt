-- `plaintext::rows::fill_row` meets its contract: each letter is one more cell of the row, and the dead cells fill it.
-- Assumes nothing.
use mathlib.Core.Path.{◌≡◌, sym, ◌∙◌}
use mathlib.Core.List.{map}
use native.Mathlib.Omega.{arith}
use lib.ListN.{length, get_or, length-map, get_or-map}
use Rattle.writer.specs.Letters.{letter_cell}
use Rattle.writer.proofs.Over.{over_more}
use Rattle.plaintext.proofs.RowCells.{filled_over}
use Rattle.plaintext.proofs.rows.fill_row.Goals as goal

pub loop-k-preserved : goal.loop-k-preserved
loop-k-preserved c =
    let r = map letter_cell c.args.row.now in
    let l = c.loop-k in
    let n : length r ≡ length c.args.row.now = length-map c.args.row.now letter_cell in
    let stored : c.cell.result ≡ get_or r l.k 0 = c.cell.ensures ∙ sym (get_or-map letter_cell c.args.row.now l.k 0) in
    rw (l.invariant, stored) (over_more _ _ l.k (omega arith) (omega arith))

pub returns : goal.returns
returns c =
    let a = c.args in
    let e : c.loop-k.k ≡ length a.row.now = omega arith in
    filled_over a.w (length a.row.now) _ _ _ _ (length-map a.row.now letter_cell) (omega arith) (omega arith) (rw e at c.loop-k.invariant) (c.fill.ensures.after (λ y h. h))
