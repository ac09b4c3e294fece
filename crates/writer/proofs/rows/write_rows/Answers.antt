-- `writer::rows::write_rows` meets its contract: each chunk is the next row.
-- Assumes nothing.
use mathlib.Core.Path.{sym, ◌∙◌}
use Prim.Native.Nat.{◌+◌, ◌*◌, ◌/◌}
use native.Mathlib.Omega.{arith}
use lib.ListN.{length}
use Rattle.writer.specs.Writing.{text_over}
use Rattle.writer.proofs.Over.{over_all}
use Rattle.writer.proofs.BoardRows.{board_text_long, rows_all, row_next, rows_rest, row_written}
use Rattle.writer.proofs.rows.write_rows.Goals as goal

pub loop-j-preserved : goal.loop-j-preserved
loop-j-preserved c =
    let a = c.args in
    let h = length a.cells.now / a.w in
    let i = c.loop-j.invariant in
    let s = c.in-Some.ensures.steps in
    let cut = rw (← s.1) at (sym i.rest ∙ s.0.1.0) in
    let wide = s.0.1.1 ∙ i.wide in
    record {
      few = rw (s.2, ← s.1) (omega (arith, row_next a.w h a.cells.now c.requires.1 c.in-Some.j _ _ c.requires.0 cut wide));
      written = rw (s.2, ← s.1) (row_written a.w h a.cells.now c.requires.1 c.in-Some.j _ _ c.requires.0 cut wide _ _ _ (rw (← s.1) at i.written) c.write_row.ensures);
      rest = rw (s.2, ← s.1) (rows_rest a.w h a.cells.now c.requires.1 c.in-Some.j _ _ c.requires.0 cut wide);
      wide = s.0.0 ∙ i.wide;
    }

pub returns : goal.returns
unfolding text_over
returns c =
    let a = c.args in
    let h = length a.cells.now / a.w in
    let i = c.loop-j.invariant in
    let s = c.in-None.ensures.steps in
    let n = board_text_long a.w h a.cells.now c.requires.1 in
    let e = rows_all a.w h a.cells.now c.requires.1 _ i.few (rw (i.rest, i.wide) at s.0.1.0) in
    rw e at i.written ∙ over_all _ _ (h * (a.w + 1)) (rw n (omega arith))
