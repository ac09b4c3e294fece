-- `writer::rows::write_row` meets its contract. The loop's invariant: the first k letters are written over the text.
-- Assumes nothing.
use mathlib.Core.Path.{◌≡◌}
use Rattle.writer.specs.Writing.{row_text}
use Rattle.writer.proofs.Over.{over}
use Rattle.writer.proofs.rows.write_row.Given as goal

abbrev pub invariant-loop-k : goal.invariant-loop-k
invariant-loop-k l = l.text ≡ over (row_text l.row) l.k l.fn.text
