-- `edges::check` meets its contract: the search stops at the first cell that is the middle of an edge three.
-- Assumes nothing.
use mathlib.Core.Path.{◌≡◌, sym, ◌∙◌}
use mathlib.Core.Bool.{true, not}
use Prim.Native.Nat.{ℕ}
use borrow.Author.Tests.{eq-eqb}
use Rattle.board.proofs.Search.{some_at}
use Rattle.edges.specs.Edges.{edge_three_at, edge_check}
use Rattle.edges.proofs.check.Goals as goal

pub returns-then-is_edge_three : goal.returns-then-is_edge_three
unfolding edge_check
returns-then-is_edge_three c =
    let a = c.args in
    let e : edge_three_at a.w a.h a.givens.now c.loop-place.place ≡ true = sym c.is_edge_three.ensures ∙ c.if-is_edge_three.true in
    rw (eq-eqb _ _ c.if-rule-ne1.false, some_at (λ (p : ℕ). not (edge_three_at a.w a.h a.givens.now p)) _ _ c.loop-place-test.true c.loop-place.invariant (rw e))
