-- `layers::layer::gains` meets its contract, row by row: what a row earns and 1 is at most one more than the width, and there are at most 1,024 rows.
-- Assumes nothing.
use mathlib.Core.Path.{◌≡◌, ◌∙◌}
use Prim.Native.Nat.{◌*◌, ◌^◌}
use native.Mathlib.Omega.{arith}
use Rattle.board.proofs.Powers.{two_le}
use Rattle.score_table.proofs.Calls.{grid_fits_lem, gain_row}
use Rattle.column_elimination.proofs.Layers.{gain_most}
use Rattle.column_elimination.proofs.Writing.{wrote_none, wrote_more}
use Rattle.layers.proofs.layer.gains.Goals as goal

pub loop-c-init : goal.loop-c-init
loop-c-init c = wrote_none _ _ _

pub overflow_cast-worth : goal.overflow_cast-worth
overflow_cast-worth c =
    let p = c.requires in
    let g = c.args.grid in
    let gain = c.row_gain.ensures ∙ gain_row _ _ _ _ _ (grid_fits_lem _ _ _ _ p.0) p.2 in
    omega (arith, gain, gain_most g.width g.givens.now (c.args.r * g.width) c.loop-c.c, p.0.width.narrow)

pub bounds-worth-c : goal.bounds-worth-c
bounds-worth-c c = let p = c.requires in omega (arith, two_le p.0.width.narrow, p.1)

pub loop-c-preserved : goal.loop-c-preserved
loop-c-preserved c =
    let p = c.requires in
    wrote_more c.loop-c.invariant _ (omega arith) _ (c.row_gain.ensures ∙ gain_row _ _ _ _ _ (grid_fits_lem _ _ _ _ p.0) p.2)

pub returns : goal.returns
returns c = let e : c.loop-c.c ≡ 2 ^ c.args.grid.width = omega (arith, c.requires.1) in rw e at c.loop-c.invariant
