-- `layers::layer::load` meets its contract, row by row.
-- Assumes nothing.
use mathlib.Core.Path.{refl}
use Prim.Native.Nat.{◌≤◌, ◌+◌, ◌-◌, ◌*◌}
use lib.ListN.{length}
use native.Mathlib.Omega.{arith}
use Rattle.board.proofs.Powers.{two_le}
use Rattle.column_elimination.proofs.Turns.{load_turn, load_end}
use Rattle.layers.proofs.Layers.{numbers_small, zeros_wrote}
use Rattle.layers.proofs.layer.load.Goals as goal

pub bounds-rows-c : goal.bounds-rows-c
bounds-rows-c c = let p = c.args.rows.number in omega (arith, two_le p.0, p.1)

pub load_eight-requires : goal.load_eight-requires
load_eight-requires c =
    let p = c.args.rows.number in
    let few : c.args.rows.n ≤ 1024 = omega (arith, two_le p.0, p.1) in
    (numbers_small p.1 c.args.rows.gained _ c.loop-c-test.true, few, omega arith, omega arith)

pub loop-c-preserved : goal.loop-c-preserved
loop-c-preserved c = load_turn _ _ _ _ _ _ c.loop-c-test.true c.loop-c.invariant c.load_eight.ensures

pub slice_bounds-fill-end : goal.slice_bounds-fill-end
slice_bounds-fill-end c = let p = c.args.rows.number in omega (arith, two_le p.0, p.1)

pub returns : goal.returns
returns c =
    let p = c.args.rows.number in
    let n = c.args.rows.n in
    let few : n ≤ 1024 = omega (arith, two_le p.0, p.1) in
    let room : 8 * n + (32 * n - 8 * n) ≤ length c.loop-c.vector = omega (arith, c.loop-c.invariant.long, few) in
    load_end _ _ _ _ _ _ _ (omega arith) refl c.loop-c.invariant (zeros_wrote _ _ _ _ room c.fill.ensures.len c.fill.ensures.clones)
