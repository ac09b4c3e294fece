-- `puzzle::given` meets its contract, by its test.
-- Assumes nothing.
use borrow.Author.Tests.{eq-eqb, ne_eqb}
use Rattle.puzzle.proofs.given.Goals as goal

pub returns-then-cell-eq0 : goal.returns-then-cell-eq0
returns-then-cell-eq0 c = simp (eq-eqb _ 0 c.if-cell-eq0.true)

pub returns-else-cell-eq0 : goal.returns-else-cell-eq0
returns-else-cell-eq0 c = simp (ne_eqb _ 0 c.if-cell-eq0.false)
