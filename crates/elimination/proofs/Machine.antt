-- Laws of a machine that works in units: units add up, a machine that stays is where it was, and one that runs to its end lasts so long.
-- Assumes nothing.
use mathlib.Core.Path.{◌≡◌, refl, sym, ◌∙◌, ap, subst}
use mathlib.Core.Bool.{true, false}
use mathlib.Core.Logic.{⊎_elim}
use Prim.Native.Nat.{ℕ, zero, suc, ◌+◌, ◌-◌, ◌≤◌, ◌<◌, min}
use native.Mathlib.Nat.{zero-add, suc-add, not-suc-le-zero, le_of_suc-le-suc}
use native.Mathlib.Omega.{arith}
use borrow.Author.Tests.{le-leb, lt-leb}
use lib.Dec.{leb}
use Rattle.elimination.specs.Machine.{Machine, advance, AdvanceAdd, Lasts, ComesTo, LastsAfter}
use Rattle.std.proofs.lemmas.Bool.{cases_lt}

module _ {S : Type 0} (M : Machine S) where
  -- ---- units
  pub advance_zero : (s : S) → advance M zero s ≡ s
  unfolding advance
  advance_zero s = refl

  pub advance_suc : (m : ℕ) (s : S) → advance M (suc m) s ≡ M.unit (advance M m s)
  unfolding advance
  advance_suc zero s = refl
  advance_suc (suc m) s = advance_suc m (M.unit s)

  pub advance_add : AdvanceAdd M
  unfolding advance
  advance_add zero p s = rw zero-add
  advance_add (suc m) p s = rw suc-add (advance_add m p (M.unit s))

  -- a machine that a unit leaves as it is stays so
  pub advance_still : (m : ℕ) (s : S) → M.unit s ≡ s → advance M m s ≡ s
  unfolding advance
  advance_still zero s e = refl
  advance_still (suc m) s e = rw e (advance_still m s e)

  -- so a loop of units may stop there
  pub advance_stop : (i m : ℕ) (s : S) → i ≤ m → M.unit (advance M i s) ≡ advance M i s → advance M m s ≡ advance M i s
  advance_stop i m s l e =
      let k : i + (m - i) ≡ m = omega arith in
      subst (λ (p : ℕ). advance M p s ≡ advance M i s) k (advance_add i (m - i) s ∙ advance_still (m - i) (advance M i s) e)

  -- ---- THE THEOREM of a machine that lasts
  pub after_units : {s : S} {long : ℕ} → LastsAfter M s long
  after_units {s} {long} L m = record { done = done; ended = ended; stays = stays; moves = moves }
    where
      stays : long ≤ m → advance M m s ≡ advance M long s
      stays l = advance_stop long m s l L.still

      done : M.done (advance M m s) ≡ min m long
      done =
          ⊎_elim (λ (l : m < long). L.counted m (omega arith) ∙ omega arith)
          (λ (l : long ≤ m). ap M.done (stays l) ∙ L.counted long (omega arith) ∙ omega arith) (cases_lt m long)

      ended : M.ended (advance M m s) ≡ leb long m
      ended =
          ⊎_elim (λ (l : m < long). L.running m l ∙ sym (lt-leb long m l)) (λ (l : long ≤ m). ap M.ended (stays l) ∙ L.over ∙ sym (le-leb long m l))
          (cases_lt m long)

      moves : m < long → M.done (M.unit (advance M m s)) ≡ suc (M.done (advance M m s))
      moves l = ap M.done (sym (advance_suc m s)) ∙ L.counted (suc m) l ∙ ap suc (sym (L.counted m (omega arith)))

  -- ---- runs
  -- from s the machine comes to s' in m units, each of which it counts, and none of which starts at an ended state
  pub data Runs (s' : S) : S → ℕ → Type 0 where
    here : Runs s' s' 0
    more : {s : S} {m : ℕ} → M.ended s ≡ false → M.done (M.unit s) ≡ suc (M.done s) → Runs s' (M.unit s) m → Runs s' s (suc m)

  module _ {s' : S} where
    pub runs_to : {s : S} {m : ℕ} → Runs s' s m → advance M m s ≡ s'
    unfolding advance
    runs_to here = refl
    runs_to (more e d r) = runs_to r

    runs_running : {s : S} {m : ℕ} → Runs s' s m → (p : ℕ) → p < m → M.ended (advance M p s) ≡ false
    unfolding advance
    runs_running here p l = absurd (not-suc-le-zero l)
    runs_running (more e d r) zero l = e
    runs_running (more e d r) (suc p) l = runs_running r p (le_of_suc-le-suc l)

    runs_done : {s : S} {m : ℕ} → Runs s' s m → (p : ℕ) → p ≤ m → M.done (advance M p s) ≡ M.done s + p
    unfolding advance
    runs_done {s} r zero l = omega arith
    runs_done here (suc p) l = absurd (not-suc-le-zero l)
    runs_done {s = s} (more {m = m} e d r) (suc p) l = runs_done {s = M.unit s} r p (le_of_suc-le-suc l) ∙ omega arith

    -- a machine that runs from unit 0 to a state where it stays comes to it
    pub runs_come : {s : S} {m : ℕ} → Runs s' s m → M.done s ≡ 0 → M.ended s' ≡ true → M.unit s' ≡ s' → ComesTo M s s' m
    runs_come {s} {m} r z e u = record { lasts = lasts; end = runs_to r }
      where
        lasts : Lasts M s m
        lasts = record {
          running = runs_running r;
          counted = λ p l. runs_done r p l ∙ omega arith;
          over = rw (runs_to r) e;
          still = rw (runs_to r) u;
        }

  -- one unit, from s to s₁, and then a run
  pub runs_more : {s' s₁ : S} {m : ℕ} (s : S) → M.unit s ≡ s₁ → M.ended s ≡ false → M.done s₁ ≡ suc (M.done s) → Runs s' s₁ m → Runs s' s (suc m)
  runs_more {m} s e n d r = more {m = m} n (rw e d) (rw e r)

  pub runs_add : {t s u : S} {m p : ℕ} → Runs t s m → Runs u t p → Runs u s (m + p)
  runs_add {p} here q = rw zero-add q
  runs_add {p} (more {m = m} e d r) q = rw suc-add (more e d (runs_add r q))
