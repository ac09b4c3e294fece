-- `writer::rows::write_rows` meets its contract. The loop's invariant: the text of the first rows is written over the text.
-- Assumes nothing.
use mathlib.Core.Path.{◌≡◌}
use Prim.Native.Nat.{◌+◌, ◌*◌, ◌/◌, ◌≤◌}
use lib.ListN.{length, drop}
use Rattle.std.specs.Iterator.Adapters.{enumerate_source, enumerate_count}
use Rattle.std.specs.Slice.Iter.{chunks_exact_rest, chunks_exact_size}
use Rattle.writer.specs.Writing.{board_text}
use Rattle.writer.proofs.Over.{over}
use Rattle.writer.proofs.rows.write_rows.Given as goal

abbrev pub invariant-loop-j : goal.invariant-loop-j
invariant-loop-j l =
    let h = length l.cells / l.w in
    let j = enumerate_count l.j-iterator in
    let rows = enumerate_source l.j-iterator in
    record {
      few : j ≤ h;
      written : l.text ≡ over (board_text l.w h l.cells) (j * (l.w + 1)) l.fn.text;
      rest : chunks_exact_rest rows ≡ drop (j * l.w) l.cells;
      wide : chunks_exact_size rows ≡ l.w;
    }
