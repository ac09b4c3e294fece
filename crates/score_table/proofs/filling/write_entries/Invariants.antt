-- `score_table::filling::write_entries` meets its contract. The loop's invariant: so many entries are filled.
-- Assumes nothing.
use Rattle.std.specs.Prelude.{◌≡◌}
use Rattle.rule.specs.Rule.{entry_of}
use Rattle.elimination.specs.Table.{fill_entries}
use Rattle.score_table.specs.ScoreTable.{kind_for}
use Rattle.score_table.proofs.filling.write_entries.Given as goal

abbrev pub invariant-loop-i : goal.invariant-loop-i
invariant-loop-i l =
    l.table ≡ fill_entries (kind_for l.grid.want (entry_of l.grid.next.now) l.grid.width l.grid.height l.grid.givens.now) l.entries.after l.entries.source l.entries.target l.entries.from l.i l.initial.table
