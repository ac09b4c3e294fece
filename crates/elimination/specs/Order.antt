-- Document 01, "Grid, row word, givens": board order, for either order of rows. What it takes for one worth to be worse than another, and when
-- a candidate is no better than another.
-- Assumes nothing.
use Rattle.std.specs.Prelude.{◌≡◌, Bool, true, false, ◌&&◌, ◌||◌, List, [], ◌∷◌, ℕ, ltb, eqb}

-- row c comes before row d: the greater first where the first argument is true, the smaller first where it is false
abbrev pub row_before : Bool → ℕ → ℕ → Bool
row_before true c d = ltb d c
row_before false c d = ltb c d

-- the rows cs come before the rows ds: the first rows that differ decide (board order, where the smaller row is first)
unfoldable pub rows_before : Bool → List ℕ → List ℕ → Bool
rows_before greater_first [] [] = false
rows_before greater_first [] (d ∷ ds) = true
rows_before greater_first (c ∷ cs) [] = false
rows_before greater_first (c ∷ cs) (d ∷ ds) = row_before greater_first c d || (eqb c d && rows_before greater_first cs ds)

module _ {X : Type 0} where
  -- `worse x y`, the worth x is worse than the worth y, is a strict weak order
  pub record StrictWeakOrder (worse : X → X → Bool) : Type 0 where
    pub irreflexive : (x : X) → worse x x ≡ false
    pub transitive : {x y z : X} → worse x y ≡ true → worse y z ≡ true → worse x z ≡ true
    pub cotransitive : {x z : X} (y : X) → worse x z ≡ true → worse x y ≡ false → worse y z ≡ true

  -- neither worth is worse than the other
  pub record Tied (worse : X → X → Bool) (x y : X) : Type 0 where
    pub not_worse : worse x y ≡ false
    pub not_better : worse y x ≡ false

  -- c, worth x, is no better than d, worth y: it is worth less, or the two are tied and c doesn't come before d
  pub data NoBetter {C : Type 0} (worse : X → X → Bool) (comesBefore : C → C → Bool) (x : X) (c : C) (y : X) (d : C) : Type 0 where
    is_worse : worse x y ≡ true → NoBetter worse comesBefore x c y d
    is_tied : Tied worse x y → comesBefore c d ≡ false → NoBetter worse comesBefore x c y d
