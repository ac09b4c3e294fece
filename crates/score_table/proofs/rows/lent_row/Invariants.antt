-- `score_table::rows::lent_row` meets its contract. The loop's invariant: the number of the bytes so far.
-- Assumes nothing.
use Rattle.std.specs.Prelude.{◌≡◌, ◌-◌, ◌*◌}
use Rattle.score_table.specs.Rows.{target_number}
use Rattle.score_table.proofs.rows.lent_row.Given as goal

abbrev pub invariant-loop-cell : goal.invariant-loop-cell
invariant-loop-cell l = (l.at ≡ (l.i - 1) * l.w) × (l.t ≡ target_number l.lent l.at l.cell-index)
