-- The check of edge threes is right.
-- Assumes nothing.
use mathlib.Core.Path.{◌≡◌, refl, sym, ◌∙◌}
use mathlib.Core.Bool.{Bool, true, false, cond, not}
use mathlib.Core.List.{List}
use Rattle.std.specs.Prelude.{Option, None, Some}
use Prim.Native.Nat.{ℕ, ◌*◌, ◌-◌, ◌+◌}
use native.Mathlib.Nat.{mul_comm}
use native.Mathlib.Omega.{arith}
use borrow.Author.Tests.{not-true, not-false}
use lib.ListN.{length}
use Rattle.board.specs.Answers.{Checked}
use Rattle.board.proofs.Answers.{at_gives, at_refuses, checked_at}
use Rattle.board.proofs.Search.{Searched, searched, all_pass, fails_at, none_of, some_of}
use Rattle.rule.specs.declared.Rule.{Rule}
use Rattle.edges.specs.Edges.{edge_three, edge_three_at, first_edge_three, born_on3, edge_check}
use Rattle.edges.specs.Theorems.{FirstMiddle, EdgeChecksRight}
use Rattle.edges.proofs.Edges.{middle_live, place_marked, place_middle, middle_place}

module _ (w h : ℕ) (g : List ℕ) where
  abbrev test : ℕ → Bool
  test p = not (edge_three_at w h g p)

  -- ---- no such cell
  no_middle : first_edge_three w h g ≡ None → (r c : ℕ) → edge_three w h g r c ≡ false
  no_middle e r c = go (first_edge_three w h g) (searched test (length g)) e (edge_three w h g r c) refl
    where
      go : (o : Option ℕ) → Searched test (length g) o → o ≡ None → (t : Bool) → edge_three w h g r c ≡ t → t ≡ false
      go o S q false m = refl
      go None (all_pass f) q true m =
          let s = middle_live w h g r c m in
          let p = not-true _ (f ((r - 1) * w + (c - 1)) (place_marked w h g s)) in
          sym m ∙ sym (place_middle w h g s) ∙ p
      go (Some i) (fails_at _ l p f) q true m = let z : ◌≡◌ {A = ℕ} 0 1 = cc in absurd (omega arith)

  none_found_lem : ((r c : ℕ) → edge_three w h g r c ≡ false) → first_edge_three w h g ≡ None
  none_found_lem f = none_of test (length g) (λ p l. rw (f _ _))

  -- ---- the first such cell
  first_middle : (p : ℕ) → first_edge_three w h g ≡ Some p → FirstMiddle w h g p
  first_middle p e = go (first_edge_three w h g) (searched test (length g)) e
    where
      go : (o : Option ℕ) → Searched test (length g) o → o ≡ Some p → FirstMiddle w h g p
      go None (all_pass f) q = let z : ◌≡◌ {A = ℕ} 0 1 = cc in absurd (omega arith)
      go (Some i) (fails_at _ l t f) q =
          let z : i ≡ p = cc in
          let m : edge_three_at w h g p ≡ true = rw (← z) (not-false (edge_three_at w h g i) t) in
          record { inside = rw (mul_comm w h) (middle_place w h g p m).1; middle = m; before = λ k b. not-true _ (f k (rw z b)) }

  found_first : (p : ℕ) → FirstMiddle w h g p → first_edge_three w h g ≡ Some p
  found_first p F =
      some_of test (length g) p (middle_place w h g p F.middle).0 (rw F.middle) (λ k l. rw (F.before k l))

pub edge_checks_right : EdgeChecksRight
unfolding edge_check
edge_checks_right rule w h g = record {
  passes = λ b. (λ e. no_middle w h g (at_gives _ 14 (rw b at e)), λ f. rw (b, none_found_lem w h g f));
  turned = λ b p. (λ e. first_middle w h g p (at_refuses _ 14 p (rw b at e)), λ F. rw (b, found_first w h g p F));
  other = λ b. rw b;
}

-- it answers 14 alone
pub edge_checked : (n : ℕ) (rule : Rule) (w h : ℕ) (g : List ℕ) → (14 ≡ n → ⊥) → Checked n (edge_check rule w h g)
unfolding edge_check
edge_checked n rule w h g p = checked_at n (cond (born_on3 rule) (first_edge_three w h g) None) 14 p
