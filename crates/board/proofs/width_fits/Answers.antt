-- `board::width_fits` meets its contract, test by test.
-- Assumes nothing.
use Rattle.board.proofs.Widths.{width_odd, width_even}
use Rattle.board.proofs.width_fits.Goals as goal

pub returns-then-not-halves : goal.returns-then-not-halves
returns-then-not-halves c = rw (c.if-not-halves.true)

pub returns-then-w-ne0 : goal.returns-then-w-ne0
returns-then-w-ne0 c = rw (c.if-not-halves.false) (width_odd _ c.if-w-ne0.true)

pub returns : goal.returns
returns c = rw (c.if-not-halves.false) (width_even _ c.if-w-ne0.false)
