-- A scan finds the best candidate: one candidate more keeps what was found right, whether it is better, worse or tied.
-- Assumes nothing.
use mathlib.Core.Path.{◌≡◌, refl, subst}
use mathlib.Core.Logic.{⊎_elim}
use mathlib.Core.Bool.{Bool, true, false}
use Rattle.std.specs.Prelude.{Option, None, Some}
use Prim.Native.Nat.{ℕ, zero, suc, ◌<◌}
use native.Mathlib.Nat.{not-suc-le-zero}
use native.Mathlib.Omega.{arith}
use borrow.Author.Tests.{le-ltb}
use Rattle.elimination.specs.Order.{StrictWeakOrder, Tied, is_worse, is_tied}
use Rattle.elimination.specs.Candidates.{Choice, nothing, chosen, Comparison, settle_tie, against, consider, scan, MergeTied, NoBetterRow, Unbeaten, BestCandidate, Found, none_found, best_found, ScanFindsBest}
use Rattle.elimination.proofs.Numbers.{eq_or_lt_of_lt_suc}
use Rattle.elimination.proofs.Order.{row_before_irreflexive, not_row_before_trans, tied_refl, tied_sym, tied_trans, no_better_trans}

module _ {X : Type 0} (K : Comparison X) where
  pub scan_none : (offer : ℕ → Option X) → scan K offer zero ≡ nothing
  unfolding scan
  scan_none offer = refl

  pub scan_more : (offer : ℕ → Option X) (m : ℕ) → scan K offer (suc m) ≡ consider K m (offer m) (scan K offer m)
  unfolding scan
  scan_more offer m = refl

  -- a scan asks only the candidates below m
  pub scan_ext : (f g : ℕ → Option X) (m : ℕ) → ((c : ℕ) → c < m → f c ≡ g c) → scan K f m ≡ scan K g m
  unfolding scan
  scan_ext f g zero e = refl
  scan_ext f g (suc m) e = rw (e m (omega arith), scan_ext f g m (λ c l. e c (omega arith)))

module _ {X : Type 0} (K : Comparison X) (O : StrictWeakOrder K.worse) (merge_tied : MergeTied K) (offer : ℕ → Option X) where
  none_some : (m c : ℕ) (x : X) → offer m ≡ None → offer c ≡ Some x → c ≡ m → ⊥
  none_some m c x e p q = let z : ◌≡◌ {A = ℕ} 0 1 = cc in omega arith

  no_better_self : (x : X) (c : ℕ) → NoBetterRow K x c x c
  no_better_self x c = is_tied (tied_refl O x) (row_before_irreflexive K.greater_first c)

  -- one candidate more: it is no better than the new choice, and the old choice isn't either
  unbeaten_more : (m r s : ℕ) (x y z : X) → offer m ≡ Some x → Unbeaten K offer m r y → NoBetterRow K y r z s → NoBetterRow K x m z s → Unbeaten K offer (suc m) s z
  unbeaten_more m r s x y z e f g k c v l p =
      ⊎_elim (λ (q : c ≡ m). let w : v ≡ x = cc in rw (w, q) k) (λ q. no_better_trans O (not_row_before_trans K.greater_first) (f c v q p) g) (eq_or_lt_of_lt_suc l)

  -- the new candidate is the best
  newcomer : (m : ℕ) (x y : X) → offer m ≡ Some x → Tied K.worse x y → Unbeaten K offer (suc m) m y → Found K offer (suc m) (chosen m y)
  newcomer m x y e v f = best_found m y (record { inside = omega arith; worth = x; offered = e; tied = v; unbeaten = f })

  -- the one held stays the best
  incumbent : (m r : ℕ) (y z : X) (B : BestCandidate K offer m r y) → Tied K.worse y z → Unbeaten K offer (suc m) r z → Found K offer (suc m) (chosen r z)
  incumbent m r y z B v f =
      best_found r z (record { inside = omega (arith, B.inside); worth = B.worth; offered = B.offered; tied = tied_trans O B.tied v; unbeaten = f })

  after_tie : (t : Bool) → K.greater_first ≡ t → (m r : ℕ) (x y : X) → offer m ≡ Some x → BestCandidate K offer m r y → Tied K.worse x y
      → Found K offer (suc m) (settle_tie t m r (K.merge y x))
  after_tie true q m r x y e B w =
      let n = merge_tied y x (tied_sym O w) in
      let v = tied_trans O w n in
      let i = B.inside in
      newcomer m x (K.merge y x) e v
      (unbeaten_more m r m x y (K.merge y x) e B.unbeaten (is_tied n (rw q (le-ltb m r (omega arith)))) (is_tied v (row_before_irreflexive K.greater_first m)))
  after_tie false q m r x y e B w =
      let n = merge_tied y x (tied_sym O w) in
      let v = tied_trans O w n in
      let i = B.inside in
      incumbent m r y (K.merge y x) B n
      (unbeaten_more m r r x y (K.merge y x) e B.unbeaten (is_tied n (row_before_irreflexive K.greater_first r)) (is_tied v (rw q (le-ltb m r (omega arith)))))

  after_against : (m r : ℕ) (x y : X) → offer m ≡ Some x → BestCandidate K offer m r y → (t u : Bool) → K.worse y x ≡ t → K.worse x y ≡ u
      → Found K offer (suc m) (against K t u m x r y)
  after_against m r x y e B true u p q = newcomer m x x e (tied_refl O x) (unbeaten_more m r m x y x e B.unbeaten (is_worse p) (no_better_self x m))
  after_against m r x y e B false true p q = incumbent m r y y B (tied_refl O y) (unbeaten_more m r r x y y e B.unbeaten (no_better_self y r) (is_worse q))
  after_against m r x y e B false false p q = after_tie K.greater_first refl m r x y e B (record { not_worse = q; not_better = p })

  after_more : (m : ℕ) (o : Option X) → offer m ≡ o → {r : Choice X} → Found K offer m r → Found K offer (suc m) (consider K m o r)
  after_more m None e (none_found f) = none_found (λ c x l p. ⊎_elim (λ q. none_some m c x e p q) (λ q. f c x q p) (eq_or_lt_of_lt_suc l))
  after_more m None e (best_found r y B) =
      incumbent m r y y B (tied_refl O y) (λ c x l p. ⊎_elim (λ q. absurd (none_some m c x e p q)) (λ q. B.unbeaten c x q p) (eq_or_lt_of_lt_suc l))
  after_more m (Some x) e (none_found f) =
      newcomer m x x e (tied_refl O x) (λ c v l p. ⊎_elim (λ (q : c ≡ m). let w : v ≡ x = cc in rw (w, q) (no_better_self x m)) (λ q. absurd (f c v q p)) (eq_or_lt_of_lt_suc l))
  after_more m (Some x) e (best_found r y B) = after_against m r x y e B (K.worse y x) (K.worse x y) refl refl

  scan_found : (m : ℕ) → Found K offer m (scan K offer m)
  unfolding scan
  scan_found zero = none_found (λ c x l p. not-suc-le-zero l)
  scan_found (suc m) = after_more m (offer m) refl (scan_found m)

-- THE THEOREM of a scan
pub scan_finds_best : {X : Type 0} (K : Comparison X) → ScanFindsBest K
scan_finds_best K = scan_found K

-- what holds of every offer, and of a tie's worth where it holds of both, holds of the worth chosen
module _ {X : Type 0} (K : Comparison X) (holds : X → Bool) (merges : (x y : X) → holds x ≡ true → holds y ≡ true → holds (K.merge x y) ≡ true) (offer : ℕ → Option X)
    (all : (c : ℕ) (x : X) → offer c ≡ Some x → holds x ≡ true) where
  abbrev Keeps : Choice X → Type 0
  Keeps nothing = Unit {0}
  Keeps (chosen c x) = holds x ≡ true

  tie_keeps : (t : Bool) (m c : ℕ) (z : X) → holds z ≡ true → Keeps (settle_tie t m c z)
  tie_keeps true m c z g = g
  tie_keeps false m c z g = g

  consider_keeps : (m : ℕ) (o : Option X) → offer m ≡ o → (r : Choice X) → Keeps r → Keeps (consider K m o r)
  consider_keeps m None e r f = f
  consider_keeps m (Some x) e nothing f = all m x e
  consider_keeps m (Some x) e (chosen c y) f = go (K.worse y x) (K.worse x y)
    where
      go : (t u : Bool) → Keeps (against K t u m x c y)
      go true u = all m x e
      go false true = f
      go false false = tie_keeps K.greater_first m c (K.merge y x) (merges y x f (all m x e))

  scan_keeps : (m : ℕ) → Keeps (scan K offer m)
  unfolding scan
  scan_keeps zero = tt
  scan_keeps (suc m) = consider_keeps m (offer m) refl (scan K offer m) (scan_keeps m)

  pub chosen_keeps : (m r : ℕ) (y : X) → scan K offer m ≡ chosen r y → holds y ≡ true
  chosen_keeps m r y e = subst Keeps e (scan_keeps m)

-- a row that is chosen is one of those tried
abbrev pub RowBelow : {X : Type 0} → ℕ → Choice X → Type 0
RowBelow m nothing = Unit {0}
RowBelow m (chosen c x) = c < m

module _ {X : Type 0} (K : Comparison X) where
  row_more : (m : ℕ) (r : Choice X) → RowBelow m r → RowBelow (suc m) r
  row_more m nothing l = tt
  row_more m (chosen c y) l = omega arith

  consider_below : (m : ℕ) (o : Option X) (r : Choice X) → RowBelow m r → RowBelow (suc m) (consider K m o r)
  consider_below m None r l = row_more m r l
  consider_below m (Some x) nothing l = omega arith
  consider_below m (Some x) (chosen c y) l = go (K.worse y x) (K.worse x y)
    where
      tie : (t : Bool) → RowBelow (suc m) (settle_tie t m c (K.merge y x))
      tie true = omega arith
      tie false = omega arith

      go : (t u : Bool) → RowBelow (suc m) (against K t u m x c y)
      go true u = omega arith
      go false true = omega arith
      go false false = tie K.greater_first

  pub scan_below : (offer : ℕ → Option X) (m : ℕ) → RowBelow m (scan K offer m)
  unfolding scan
  scan_below offer zero = tt
  scan_below offer (suc m) = consider_below m (offer m) (scan K offer m) (scan_below offer m)
