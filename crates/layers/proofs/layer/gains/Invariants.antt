-- `layers::layer::gains` meets its contract. The loop's invariant: so many rows are done.
-- Assumes nothing.
use Rattle.std.specs.Prelude.{◌*◌}
use Rattle.score_table.specs.Rows.{row_gain}
use Rattle.column_elimination.specs.Written.{Wrote}
use Rattle.layers.proofs.layer.gains.Given as goal

abbrev pub invariant-loop-c : goal.invariant-loop-c
invariant-loop-c l = Wrote 0 l.c (row_gain l.grid.width l.grid.givens.now (l.r * l.grid.width)) l.initial.worth l.worth
