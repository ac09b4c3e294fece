-- Laws of the rules of an entry and of a choice: what a candidate that offers something is, and that the rules ask only the numbers of rows.
-- Assumes nothing.
use mathlib.Core.Path.{◌≡◌, refl, sym, ◌∙◌, ap}
use mathlib.Core.Bool.{Bool, true, false, cond}
use Rattle.std.specs.Prelude.{Some}
use Prim.Native.Nat.{ℕ, zero, suc, ◌<◌}
use native.Mathlib.Omega.{arith}
use Rattle.elimination.specs.Candidates.{scan}
use Rattle.elimination.specs.Kind.{Kind, worth_of, offer_if, offer, choose, entry, right_entry}
use Rattle.elimination.proofs.Candidates.{scan_ext, RowBelow, scan_below}

module _ {X : Type 0} (G : Kind X) where
  -- ---- a candidate
  -- c, which offers x, may stand there, the number read for it counts, and x is its worth with that number
  pub record Offers (k a b : ℕ) (read : ℕ → X) (c : ℕ) (x : X) : Type 0 where
    pub allowed : G.may k a b c ≡ true
    pub counted : G.counts (read c) ≡ true
    pub worth : x ≡ G.add k c (read c)

  pub offer_some : (k a b : ℕ) (read : ℕ → X) (c : ℕ) (x : X) → offer G k a b read c ≡ Some x → Offers k a b read c x
  offer_some k a b read c x = go (G.may k a b c) refl (G.counts (read c)) refl
    where
      go : (t : Bool) → G.may k a b c ≡ t → (u : Bool) → G.counts (read c) ≡ u → offer_if G t k read c ≡ Some x → Offers k a b read c x
      go true e true f p = record { allowed = e; counted = f; worth = cc }
      go true e false f p = absurd (let z : ◌≡◌ {A = ℕ} 0 1 = cc in omega arith)
      go false e u f p = absurd (let z : ◌≡◌ {A = ℕ} 0 1 = cc in omega arith)

  pub some_offer : (k a b : ℕ) (read : ℕ → X) (c : ℕ) → G.may k a b c ≡ true → G.counts (read c) ≡ true → offer G k a b read c ≡ Some (G.add k c (read c))
  some_offer k a b read c e f = rw (e, f)

  -- ---- the rules
  pub choose_scan : (k a b : ℕ) (read : ℕ → X) → choose G k a b read ≡ scan G.comparison (offer G k a b read) G.codes
  unfolding choose
  choose_scan k a b read = refl

  pub entry_last : (a b : ℕ) (read : ℕ → X) → entry G zero a b read ≡ cond (G.may_end a b) G.start G.absent
  unfolding entry
  entry_last a b read = refl

  pub entry_more : (k a b : ℕ) (read : ℕ → X) → entry G (suc k) a b read ≡ worth_of G.absent (choose G k a b read)
  unfolding entry
  entry_more k a b read = refl

  pub right_entry_last : (a b : ℕ) (read : ℕ → X) → right_entry G zero a b ≡ entry G zero a b read
  unfolding entry right_entry
  right_entry_last a b read = refl

  pub right_entry_more : (k a b : ℕ) → right_entry G (suc k) a b ≡ entry G (suc k) a b (right_entry G k b)
  unfolding right_entry
  right_entry_more k a b = refl

  -- a row that is chosen is one
  pub choose_below : (k a b : ℕ) (read : ℕ → X) → RowBelow G.codes (choose G k a b read)
  unfolding choose
  choose_below k a b read = scan_below G.comparison (offer G k a b read) G.codes

  -- a choice asks only the numbers of rows
  pub choose_ext : (k a b : ℕ) (f g : ℕ → X) → ((c : ℕ) → c < G.codes → f c ≡ g c) → choose G k a b f ≡ choose G k a b g
  unfolding choose
  choose_ext k a b f g e = scan_ext G.comparison (offer G k a b f) (offer G k a b g) G.codes (λ c l. go (G.may k a b c) c (e c l))
    where
      go : (t : Bool) (c : ℕ) → f c ≡ g c → offer_if G t k f c ≡ offer_if G t k g c
      go true c p = rw p
      go false c p = refl

  -- and so does an entry
  pub entry_ext : (k a b : ℕ) (f g : ℕ → X) → ((c : ℕ) → c < G.codes → f c ≡ g c) → entry G k a b f ≡ entry G k a b g
  entry_ext zero a b f g e = entry_last a b f ∙ sym (entry_last a b g)
  entry_ext (suc k) a b f g e = entry_more k a b f ∙ ap (worth_of G.absent) (choose_ext k a b f g e) ∙ sym (entry_more k a b g)
