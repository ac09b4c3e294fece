-- `layers::layer::fill_rows` meets its contract, eight rows by eight.
-- Assumes nothing.
use mathlib.Core.Path.{◌≡◌}
use Prim.Native.Nat.{◌*◌, ◌^◌}
use native.Mathlib.Omega.{arith}
use Rattle.column_elimination.proofs.Layers.{partly_none}
use Rattle.layers.proofs.Layers.{eights, eight_more}
use Rattle.layers.proofs.layer.fill_rows.Goals as goal

pub loop-v-init : goal.loop-v-init
loop-v-init c = λ next K. partly_none _ _ _ _

pub loop-v-preserved : goal.loop-v-preserved
loop-v-preserved c =
    let e = eights c.args.rows.w c.args.rows.n c.requires.0 c.args.rows.number.1 in
    λ next K. eight_more _ _ _ _ _ _ c.requires.1 _ _ (omega (arith, e)) (c.loop-v.invariant next K) (c.fill_eight.ensures next K)

pub returns : goal.returns
returns c =
    let e = eights c.args.rows.w c.args.rows.n c.requires.0 c.args.rows.number.1 in
    let all : 8 * c.loop-v.v ≡ 2 ^ c.args.rows.w = omega (arith, e) in
    λ next K. rw all at (c.loop-v.invariant next K)
