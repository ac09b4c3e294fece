-- `score_table::filling::write_entry` meets its contract: the place is the entry's, within its layer.
-- Assumes nothing.
use Rattle.elimination.specs.Table.{fill_entry}
use Rattle.score_table.proofs.filling.write_entry.Goals as goal

pub returns : goal.returns
unfolding fill_entry
returns c = rw c.entry_at-e.ensures
