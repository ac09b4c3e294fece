-- `score_table::rows::row_codes` meets its contract: a shift of 1 is a power of 2, and it fits.
-- Assumes nothing.
use Rattle.board.proofs.Powers.{two_le, two_shift}
use Rattle.score_table.proofs.rows.row_codes.Goals as goal

pub returns : goal.returns
returns c = let e = two_shift c.requires in (e, rw e (two_le c.requires))
