-- Counts of cells, the fewest wanted or the most: which are no better.
-- Assumes nothing.
use mathlib.Core.Path.{◌≡◌}
use mathlib.Core.Bool.{Bool, true, false}
use Prim.Native.Nat.{ℕ, ◌+◌}
use native.Mathlib.Nat.{le_antisymm}
use native.Mathlib.Omega.{arith}
use borrow.Author.Tests.{ltb-true, ltb-false}
use Rattle.elimination.specs.Sums.{sum_worse}
use Rattle.third_demand.specs.Grid.{CountsNoBetter}

-- by which sum is worse
pub not_worse : (fewest : Bool) (x y : ℕ) → sum_worse fewest y x ≡ false → CountsNoBetter fewest x y
not_worse true x y e = ltb-false x y e
not_worse false x y e = ltb-false y x e

pub worse_no_better : (fewest : Bool) (x y : ℕ) → sum_worse fewest x y ≡ true → CountsNoBetter fewest x y
worse_no_better true x y e = omega (arith, ltb-true y x e)
worse_no_better false x y e = omega (arith, ltb-true x y e)

pub equal_no_better : (fewest : Bool) (x y : ℕ) → x ≡ y → CountsNoBetter fewest x y
equal_no_better true x y e = omega arith
equal_no_better false x y e = omega arith

-- two of which neither is better are equal
pub no_better_both : (fewest : Bool) (x y : ℕ) → CountsNoBetter fewest x y → CountsNoBetter fewest y x → x ≡ y
no_better_both true x y p q = le_antisymm q p
no_better_both false x y p q = le_antisymm p q

-- and both may be so many more
module _ (fewest : Bool) (x y : ℕ) {x' y' : ℕ} (n : ℕ) (p : x' ≡ x + n) (q : y' ≡ y + n) where
  pub shifted : CountsNoBetter fewest x y → CountsNoBetter fewest x' y'
  shifted = go fewest
    where
      go : (t : Bool) → CountsNoBetter t x y → CountsNoBetter t x' y'
      go true l = omega (arith, p, q)
      go false l = omega (arith, p, q)

  pub shifted_back : CountsNoBetter fewest x' y' → CountsNoBetter fewest x y
  shifted_back = go fewest
    where
      go : (t : Bool) → CountsNoBetter t x' y' → CountsNoBetter t x y
      go true l = omega (arith, p, q)
      go false l = omega (arith, p, q)
