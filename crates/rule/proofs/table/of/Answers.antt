-- `rule::table::of` meets its contract: the constants hold Conway's rule, and the table that is filled holds its own.
-- Assumes nothing.
use Rattle.rule.proofs.Generating.{table_holds, conway_holds}
use Rattle.rule.proofs.table.of.Goals as goal

pub returns-then-rule-eq12 : goal.returns-then-rule-eq12
returns-then-rule-eq12 c = conway_holds _ c.if-rule-eq8.true c.if-rule-eq12.true c.conway.ensures

pub returns : goal.returns
returns c = rw c.fill.ensures (table_holds _)
