-- `score_table::best::best_row` meets its contract. The invariants: what is held is the best of the rows below c; no column passed fails. The measures:
-- the rows left, and the columns left.
-- Assumes nothing.
use Rattle.std.specs.Prelude.{◌+◌, ◌≡◌, ◌-◌, ◌≤◌, None, get_or}
use Rattle.board.specs.Search.{first_not}
use Rattle.rule.specs.Rule.{entry_of}
use Rattle.score_table.specs.ScoreTable.{reads_from}
use Rattle.score_table.specs.Inner.{passes}
use Rattle.score_table.proofs.Scanning.{Held}
use Rattle.score_table.proofs.best.best_row.Given as goal

abbrev pub invariant-rows : goal.invariant-rows
invariant-rows l =
    (l.c ≤ l.n) × Held l.grid.want (entry_of l.grid.next.now) l.grid.width l.grid.givens.now l.at l.a l.b l.t (reads_from l.table l.first) l.c l.held

abbrev pub decreases-rows : goal.decreases-rows
decreases-rows l = l.n - l.c

abbrev pub invariant-loop-j : goal.invariant-loop-j
invariant-loop-j l = (l.c ≡ l.initial.c) × (l.j ≤ l.w + 2) × (first_not (λ j. passes (entry_of l.grid.next.now) l.w (get_or l.columns j 0) l.row j) l.j ≡ None)

abbrev pub decreases-loop-j : goal.decreases-loop-j
decreases-loop-j l = l.w + 2 - l.j
