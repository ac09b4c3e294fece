-- `columns::two_to` meets its contract.
-- Assumes nothing.
use Rattle.column_elimination.proofs.Sizes.{one_shift}
use Rattle.columns.proofs.two_to.Goals as goal

pub returns : goal.returns
returns c = one_shift _ c.requires
