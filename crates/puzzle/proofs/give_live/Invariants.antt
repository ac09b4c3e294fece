-- `puzzle::give_live` meets its contract. The loop's invariant: the first i givens are written over the cells. The measure: the cells left.
-- Assumes nothing.
use mathlib.Core.Path.{◌≡◌}
use mathlib.Core.List.{map}
use Prim.Native.Nat.{◌-◌, ◌≤◌}
use lib.ListN.{length}
use Rattle.writer.proofs.Over.{over}
use Rattle.puzzle.specs.Texts.{given_of}
use Rattle.puzzle.proofs.give_live.Given as goal

abbrev pub invariant-loop-cell : goal.invariant-loop-cell
invariant-loop-cell l = (l.cells ≡ over (map given_of l.initial.cells) l.cell-index l.initial.cells) × (length l.cells ≡ length l.initial.cells)
