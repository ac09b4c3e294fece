-- `puzzle::give_live` meets its contract. The loop's invariant: the first i givens are written over the cells. The measure: the cells left.
-- Assumes nothing.
use mathlib.Core.Path.{◌≡◌, refl, sym, ◌∙◌, ap}
use mathlib.Core.List.{List, map, append-nil}
use Prim.Native.Nat.{ℕ, suc, ◌≤◌, ◌<◌}
use native.Mathlib.Omega.{arith}
use borrow.Author.Rules.{rules}
use lib.ListN.{length, length-set, get_or, length-map, take, drop, drop_of_length-le, get_or-map}
use lib.Seq.{drop-cons, get_or_at, length-take-le}
use Rattle.writer.proofs.Over.{over, over_more, over_all}
use Rattle.puzzle.specs.Texts.{given_of}
use Rattle.puzzle.proofs.give_live.Goals as goal

-- a list written anew up to k holds at k what it held
next_held : (new old : List ℕ) (k : ℕ) → k ≤ length new → k < length old → get_or (over new k old) k 0 ≡ get_or old k 0
next_held new old k hn ho = rw (drop-cons old k 0 ho) (get_or_at (take k new) (get_or old k 0) (drop (suc k) old) 0 k (length-take-le k new hn))

pub loop-cell-init : goal.loop-cell-init
loop-cell-init c = (refl, refl)

pub loop-cell-preserved : goal.loop-cell-preserved
loop-cell-preserved c =
    let old = c.args.cells.now in
    let l = c.loop-cell in
    let i = l.cell-index in
    let less : i < length old = omega (arith, l.invariant.1) in
    let held : get_or l.cells i 0 ≡ get_or old i 0 = rw l.invariant.0 (next_held (map given_of old) old i (rw length-map (omega arith)) less) in
    let v : c.given.result ≡ get_or (map given_of old) i 0 = c.given.ensures ∙ ap given_of held ∙ sym (get_or-map given_of old i 0) in
    (rw (l.invariant.0, v) (over_more _ _ i (rw length-map (omega arith)) less), rw length-set l.invariant.1)

pub returns : goal.returns
returns c =
    let old = c.args.cells.now in
    let l = c.loop-cell in
    let e : l.cell-index ≡ length old = omega (arith, l.invariant.1) in
    let whole : length old ≤ length old = omega arith in
    rw (rw e at l.invariant.0) (over_all _ old (length old) (rw length-map whole) ∙ rw (drop_of_length-le old whole) (append-nil _))
