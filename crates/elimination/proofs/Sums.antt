-- A kind of job whose worths are sums that fit is lawful: sums are ordered by size, and an ending's sum stays within the limit.
-- Assumes nothing.
use mathlib.Core.Path.{◌≡◌, refl}
use mathlib.Core.Bool.{Bool, true, false}
use mathlib.Core.List.{List, [], ◌∷◌}
use Prim.Native.Nat.{ℕ, zero, suc, ◌+◌, ◌*◌, ◌≤◌}
use native.Mathlib.Nat.{mul-le-mul_right, le_trans}
use native.Mathlib.Omega.{arith}
use borrow.Author.Tests.{ltb-true, ltb-false, lt-ltb, le-ltb, le-leb, lt-leb}
use lib.ListN.{length}
use Rattle.elimination.specs.Order.{StrictWeakOrder, Tied}
use Rattle.elimination.specs.Endings.{Ending, total}
use Rattle.elimination.specs.Sums.{sum_worse, SumRules, sum_kind, SumsFit, SumsLawful}
use Rattle.elimination.proofs.Order.{tied_refl}

pub sum_worse_ordered : (least : Bool) → StrictWeakOrder (sum_worse least)
sum_worse_ordered true = record {
  irreflexive = λ x. le-ltb x x (omega arith);
  transitive = λ {x} {y} {z} p q. lt-ltb z x (omega (arith, ltb-true y x p, ltb-true z y q));
  cotransitive = λ {x} {z} y p q. lt-ltb z y (omega (arith, ltb-true z x p, ltb-false y x q));
}
sum_worse_ordered false = record {
  irreflexive = λ x. le-ltb x x (omega arith);
  transitive = λ {x} {y} {z} p q. lt-ltb x z (omega (arith, ltb-true x y p, ltb-true y z q));
  cotransitive = λ {x} {z} y p q. lt-ltb y z (omega (arith, ltb-true x z p, ltb-false x y q));
}

-- sums that are tied are equal
pub tied_equal : (least : Bool) {x y : ℕ} → Tied (sum_worse least) x y → x ≡ y
tied_equal true {x} {y} e = omega (arith, ltb-false y x e.not_worse, ltb-false x y e.not_better)
tied_equal false {x} {y} e = omega (arith, ltb-false x y e.not_worse, ltb-false y x e.not_better)

-- and the other way
pub equal_tied : (least : Bool) {x y : ℕ} → x ≡ y → Tied (sum_worse least) x y
equal_tied least {x} {y} e = rw e (tied_refl (sum_worse_ordered least) y)

sum_worse_add : (least : Bool) (u x y : ℕ) → sum_worse least x y ≡ true → sum_worse least (u + x) (u + y) ≡ true
sum_worse_add true u x y p = lt-ltb (u + y) (u + x) (omega (arith, ltb-true y x p))
sum_worse_add false u x y p = lt-ltb (u + x) (u + y) (omega (arith, ltb-true x y p))

module _ (R : SumRules) (h most : ℕ) (F : SumsFit R h most) where
  -- k rows are worth at most k times the most that a row earns
  total_le : (k a b : ℕ) (cs : List ℕ) → Ending (sum_kind R) k a b cs → total (sum_kind R) cs ≤ k * most
  unfolding total
  total_le zero a b [] e = omega arith
  total_le zero a b (c ∷ cs) e = absurd e
  total_le (suc k) a b [] e = absurd e
  total_le (suc k) a b (c ∷ cs) e = omega (arith, F.each (length cs) c e.0, total_le k b c cs e.2)

  total_within : (k a b : ℕ) (cs : List ℕ) → k ≤ h → Ending (sum_kind R) k a b cs → total (sum_kind R) cs ≤ R.limit
  total_within k a b cs l e = le_trans (total_le k a b cs e) (le_trans (mul-le-mul_right most l) F.within)

-- THE THEOREM of sums
pub sums_lawful : SumsLawful
sums_lawful R h most F = record {
  ordered = sum_worse_ordered R.least;
  absent_not_counted = lt-leb R.absent R.limit F.absent_above;
  add_worse = λ {k} {c} {x} {y} p. sum_worse_add R.least (R.worth k c) x y p;
  add_tied = λ {k} {c} {x} {y} e. rw (tied_equal R.least e) (tied_refl (sum_worse_ordered R.least) (R.worth k c + y));
  add_swap = λ k c j d x. omega arith;
  merge_tied = λ x y e. tied_refl (sum_worse_ordered R.least) x;
  valid = λ x. true;
  valid_start = refl;
  valid_add = λ v. refl;
  valid_merge = λ v v'. refl;
  valid_counts = λ k a b cs x l e f v. rw (← (tied_equal R.least f)) (le-leb (total (sum_kind R) cs) R.limit (total_within R h most F k a b cs l e));
}
