-- `plaintext::rows::fill_row` meets its contract. The loop's invariant: the first k cells of the row are written over the cells.
-- Assumes nothing.
use mathlib.Core.Path.{◌≡◌}
use mathlib.Core.List.{map}
use Rattle.writer.specs.Letters.{letter_cell}
use Rattle.writer.proofs.Over.{over}
use Rattle.plaintext.proofs.rows.fill_row.Given as goal

abbrev pub invariant-loop-k : goal.invariant-loop-k
invariant-loop-k l = l.cells ≡ over (map letter_cell l.row) l.k l.fn.cells
