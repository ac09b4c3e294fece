-- `puzzle::has_sizes` meets its contract, by its tests.
-- Assumes nothing.
use borrow.Author.Tests.{eq-eqb, ne_eqb}
use Rattle.puzzle.proofs.has_sizes.Goals as goal

pub returns-then-givens-ne-CELLS : goal.returns-then-givens-ne-CELLS
returns-then-givens-ne-CELLS c = simp (ne_eqb _ _ c.if-givens-ne-CELLS.true)

pub returns-then-table-ne-ENTRIES : goal.returns-then-table-ne-ENTRIES
returns-then-table-ne-ENTRIES c = simp (eq-eqb _ _ c.if-givens-ne-CELLS.false, ne_eqb _ _ c.if-table-ne-ENTRIES.true)

pub returns-then-board-ne-CELLS : goal.returns-then-board-ne-CELLS
returns-then-board-ne-CELLS c = simp (eq-eqb _ _ c.if-givens-ne-CELLS.false, eq-eqb _ _ c.if-table-ne-ENTRIES.false, ne_eqb _ _ c.if-board-ne-CELLS.true)

pub returns : goal.returns
returns c = simp (eq-eqb _ _ c.if-givens-ne-CELLS.false, eq-eqb _ _ c.if-table-ne-ENTRIES.false, eq-eqb _ _ c.if-board-ne-CELLS.false)
