-- `score_table::rows::whole_row` meets its contract. The loop's invariant: the number of the cells so far.
-- Assumes nothing.
use Rattle.std.specs.Prelude.{◌≡◌, ◌+◌, ◌/◌}
use Rattle.score_table.proofs.WholeRows.{first}
use Rattle.score_table.proofs.rows.whole_row.Given as goal

abbrev pub invariant-loop-i : goal.invariant-loop-i
invariant-loop-i l = (l.n ≡ l.w / 2) × (l.r ≡ first l.w l.c (l.w / 2 + l.i))
