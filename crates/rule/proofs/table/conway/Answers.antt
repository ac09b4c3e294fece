-- `rule::table::conway` meets its contract, by a test of the whole table.
-- Assumes nothing.
use mathlib.Core.Path.{refl}
use Rattle.rule.specs.Rule.{conway}
use Rattle.rule.proofs.Entries.{right, conway_table}
use Rattle.rule.proofs.table.conway.Goals as goal

pub returns : goal.returns
unfolding right conway
returns c = conway_table _ refl tt
