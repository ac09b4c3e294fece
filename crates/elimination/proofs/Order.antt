-- Laws of the orders of rows and of worths: ties are an equivalence that agrees with "worse", and "no better" is transitive.
-- Assumes nothing.
use mathlib.Core.Path.{◌≡◌, refl, sym, ◌∙◌}
use mathlib.Core.Bool.{Bool, true, false, ◌&&◌, ◌||◌, true≢false}
use mathlib.Core.List.{List, [], ◌∷◌}
use Prim.Native.Nat.{ℕ}
use native.Mathlib.Omega.{arith}
use borrow.Author.Tests.{le-ltb, ltb-false, eqb-true}
use lib.Dec.{eqb}
use Rattle.elimination.specs.Order.{row_before, rows_before, StrictWeakOrder, Tied, NoBetter, is_worse, is_tied}

-- ---- rows
pub row_before_irreflexive : (greater_first : Bool) (c : ℕ) → row_before greater_first c c ≡ false
row_before_irreflexive true c = le-ltb c c (omega arith)
row_before_irreflexive false c = le-ltb c c (omega arith)

pub not_row_before_trans : (greater_first : Bool) (c d e : ℕ) → row_before greater_first c d ≡ false → row_before greater_first d e ≡ false → row_before greater_first c e ≡ false
not_row_before_trans true c d e p q = le-ltb e c (omega (arith, ltb-false d c p, ltb-false e d q))
not_row_before_trans false c d e p q = le-ltb c e (omega (arith, ltb-false c d p, ltb-false d e q))

pub rows_before_none : (greater_first : Bool) → rows_before greater_first [] [] ≡ false
unfolding rows_before
rows_before_none greater_first = refl

pub rows_before_cons : (greater_first : Bool) (c d : ℕ) (cs ds : List ℕ)
    → rows_before greater_first (c ∷ cs) (d ∷ ds) ≡ row_before greater_first c d || (eqb c d && rows_before greater_first cs ds)
unfolding rows_before
rows_before_cons greater_first c d cs ds = refl

-- the first row isn't before, and where the first rows are equal the rest isn't: the whole isn't
pub not_rows_before : (greater_first : Bool) (c d : ℕ) (cs ds : List ℕ) → row_before greater_first c d ≡ false → (c ≡ d → rows_before greater_first cs ds ≡ false)
    → rows_before greater_first (c ∷ cs) (d ∷ ds) ≡ false
not_rows_before greater_first c d cs ds p q = rows_before_cons greater_first c d cs ds ∙ go (eqb c d) refl
  where
    go : (t : Bool) → eqb c d ≡ t → row_before greater_first c d || (eqb c d && rows_before greater_first cs ds) ≡ false
    go true e = rw (p, e) (q (eqb-true c d e))
    go false e = rw (p, e)

-- ---- worths
not_both : {t : Bool} → t ≡ true → t ≡ false → ⊥
not_both p q = true≢false (sym p ∙ q)

module _ {X : Type 0} {worse : X → X → Bool} (O : StrictWeakOrder worse) where
  pub tied_refl : (x : X) → Tied worse x x
  tied_refl x = record { not_worse = O.irreflexive x; not_better = O.irreflexive x }

  pub tied_sym : {x y : X} → Tied worse x y → Tied worse y x
  tied_sym e = record { not_worse = e.not_better; not_better = e.not_worse }

  pub worse_tied : {x y z : X} → worse x y ≡ true → Tied worse y z → worse x z ≡ true
  worse_tied {x} {y} {z} p e = go (worse x z) refl
    where
      go : (t : Bool) → worse x z ≡ t → t ≡ true
      go true q = refl
      go false q = absurd (not_both (O.cotransitive z p q) e.not_better)

  pub tied_worse : {x y z : X} → Tied worse x y → worse y z ≡ true → worse x z ≡ true
  tied_worse {x} {y} {z} e p = O.cotransitive x p e.not_better

  not_worse_trans : {x y z : X} → Tied worse x y → Tied worse y z → worse x z ≡ false
  not_worse_trans {x} {y} {z} e f = go (worse x z) refl
    where
      go : (t : Bool) → worse x z ≡ t → t ≡ false
      go false q = refl
      go true q = absurd (not_both (O.cotransitive y q e.not_worse) f.not_worse)

  pub tied_trans : {x y z : X} → Tied worse x y → Tied worse y z → Tied worse x z
  tied_trans e f = record { not_worse = not_worse_trans e f; not_better = not_worse_trans (tied_sym f) (tied_sym e) }

  module _ {C : Type 0} {comesBefore : C → C → Bool} where
    pub no_better_trans : ((c d e : C) → comesBefore c d ≡ false → comesBefore d e ≡ false → comesBefore c e ≡ false)
        → {x y z : X} {c d e : C} → NoBetter worse comesBefore x c y d → NoBetter worse comesBefore y d z e → NoBetter worse comesBefore x c z e
    no_better_trans t (is_worse p) (is_worse q) = is_worse (O.transitive p q)
    no_better_trans t (is_worse p) (is_tied e f) = is_worse (worse_tied p e)
    no_better_trans t (is_tied e f) (is_worse q) = is_worse (tied_worse e q)
    no_better_trans t {c} {d} {e} (is_tied p f) (is_tied q g) = is_tied (tied_trans p q) (t c d e f g)
