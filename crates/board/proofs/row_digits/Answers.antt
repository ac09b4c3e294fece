-- `board::row_digits` meets its contract, by how rows are held.
-- Assumes nothing.
use Rattle.board.proofs.row_digits.Goals as goal

pub returns-then-halves : goal.returns-then-halves
returns-then-halves c = rw c.if-halves.true

pub returns-else-halves : goal.returns-else-halves
returns-else-halves c = rw c.if-halves.false
