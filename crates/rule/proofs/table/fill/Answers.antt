-- `rule::table::fill` meets its contract. The loop's invariant: the entries passed are the rule's, the others are as they were.
-- The measure: the entries left. Assumes nothing.
use mathlib.Core.Path.{◌≡◌, refl, ◌∙◌}
use Prim.Native.Nat.{◌<◌}
use native.Mathlib.Omega.{arith}
use borrow.Author.Rules.{rules}
use lib.ListN.{length, length-set}
use Rattle.board.proofs.Lists.{listed_none, listed_more, listed_all}
use Rattle.rule.specs.Rule.{next_under, table_of}
use Rattle.rule.proofs.table.fill.Goals as goal

pub loop-p-init : goal.loop-p-init
loop-p-init c = (search rules, refl, listed_none _ _)

pub loop-p-preserved : goal.loop-p-preserved
loop-p-preserved c =
    let g = c.args in
    let p = c.loop-p.p in
    let l : p < length g.table.now = omega arith in (
      search rules,
      rw length-set c.loop-p.invariant.1,
      rw (c.loop-p.invariant.2, c.next_of.ensures) (listed_more (next_under g.rule) g.table.now p l),
    )

pub returns : goal.returns
unfolding table_of
returns c =
    let g = c.args in
    let e : c.loop-p.p ≡ 512 = omega arith in
    c.loop-p.invariant.2 ∙ rw e (listed_all _ g.table.now 512 c.requires)
