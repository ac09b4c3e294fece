-- `columns::halves` meets its contract: a turn writes a half.
-- Assumes nothing.
use mathlib.Core.Path.{◌≡◌, refl, sym, ap}
use Prim.Native.Nat.{ℕ, ◌+◌, ◌*◌, ◌-◌, ◌^◌}
use native.Mathlib.Omega.{arith}
use Rattle.column_elimination.specs.Columns.{crossed}
use Rattle.column_elimination.proofs.Writing.{wrote_same}
use Rattle.column_elimination.proofs.Sizes.{halves_fill, run_is, run_some, low_room, out_room}
use Rattle.column_elimination.proofs.Turns.{column_turn}
use Rattle.columns.proofs.halves.Goals as goal

pub half-requires : goal.half-requires
half-requires c =
    let q = c.requires in (
      run_some _ _ _ _ q.0 q.1 c.two_to-n.ensures c.two_to-to.ensures,
      low_room _ _ _ _ q.0 q.1 c.two_to-n.ensures c.two_to-to.ensures _ c.loop-p-test.true,
      omega arith,
      out_room _ _ _ _ q.0 q.1 c.two_to-n.ensures c.two_to-to.ensures _ c.loop-p-test.true,
    )

pub loop-p-preserved : goal.loop-p-preserved
loop-p-preserved c =
    let q = c.requires in
    column_turn _ _ _ _ _ (run_some _ _ _ _ q.0 q.1 c.two_to-n.ensures c.two_to-to.ensures) refl c.loop-p.invariant c.half.ensures

pub returns : goal.returns
returns c =
    let g = c.args in
    let n = c.two_to-n.result in
    let e : c.loop-p.p ≡ c.two_to-to.result = omega arith in
    let q : 2 ^ (g.w + 2 - g.j) ≡ 8 * n = run_is g.w g.j n c.two_to-to.result c.requires.0 c.requires.1 c.two_to-n.ensures c.two_to-to.ensures in
    wrote_same c.loop-p.invariant
    (rw e (halves_fill g.w g.j n c.two_to-to.result c.requires.0 c.requires.1 c.two_to-n.ensures c.two_to-to.ensures))
    (λ y h. ap (λ (z : ℕ). crossed g.src.now g.masks.now z y) (sym q))
