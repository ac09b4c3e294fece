-- `writer::rows::write_row` meets its contract: each letter, and then LF, is one more byte of the row's text.
-- Assumes nothing.
use mathlib.Core.Path.{◌≡◌, sym, ◌∙◌}
use Prim.Native.Nat.{◌+◌}
use native.Mathlib.Omega.{arith}
use lib.ListN.{length, set, get_or}
use Rattle.writer.specs.Letters.{LF}
use Rattle.writer.specs.Writing.{row_text}
use Rattle.writer.proofs.Over.{over, over_more, over_all}
use Rattle.writer.proofs.BoardRows.{text_long, text_letter, text_end}
use Rattle.writer.proofs.rows.write_row.Goals as goal

pub loop-k-preserved : goal.loop-k-preserved
loop-k-preserved c =
    let r = c.args.row.now in
    let l = c.loop-k in
    let n = text_long r in
    let v : c.letter.result ≡ get_or (row_text r) l.k 0 = c.letter.ensures ∙ sym (text_letter r l.k (omega arith)) in
    rw (l.invariant, v) (over_more _ _ l.k (rw n (omega arith)) (omega arith))

pub returns : goal.returns
returns c =
    let r = c.args.row.now in
    let old = c.args.text.now in
    let n = text_long r in
    let e : c.loop-k.k ≡ length r = omega arith in
    let last : set (over (row_text r) (length r) old) (length r) LF ≡ over (row_text r) (length r + 1) old
    = rw (text_end r) at (over_more (row_text r) old (length r) (rw n (omega arith)) (omega arith)) in
    rw (rw e at c.loop-k.invariant) (last ∙ over_all (row_text r) old (length r + 1) (rw n (omega arith)))
