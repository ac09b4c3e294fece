-- `life::plane::Plane::write_step` meets its contract. The loop's invariant: the bytes passed are the next states, the others are as they were.
-- Assumes nothing.
use mathlib.Core.Path.{◌≡◌, ◌∙◌}
use Prim.Native.Nat.{◌<◌}
use native.Mathlib.Omega.{arith}
use lib.ListN.{length}
use Rattle.board.proofs.Lists.{listed_none, listed_more, listed_all}
use Rattle.rule.specs.Rule.{entry_of}
use Rattle.life.specs.Calls.{ring_size, next_at, stepped}
use Rattle.life.proofs.Ring.{next_is}
use Rattle.life.proofs.plane.Plane.write_step.Goals as goal

pub loop-k-init : goal.loop-k-init
loop-k-init c = listed_none _ _

pub loop-k-preserved : goal.loop-k-preserved
loop-k-preserved c =
    let g = c.args.self.now in
    let f = next_at (entry_of c.args.next.now) g.width g.height g.cells.now in
    let k = c.loop-k.k in
    let l : k < length c.args.ring.now = omega arith in
    let e = next_is (entry_of c.args.next.now) g.width g.height g.cells.now k c.pattern.ensures.0 in
    rw (c.loop-k.invariant, e) (listed_more f c.args.ring.now k l)

pub returns : goal.returns
unfolding stepped
returns c =
    let g = c.args.self.now in
    let e : c.loop-k.k ≡ ring_size g.width g.height = omega arith in
    c.loop-k.invariant ∙ rw e (listed_all _ c.args.ring.now (ring_size g.width g.height) c.requires)
