-- The judge is right about the whole plane.
-- Assumes nothing.
use mathlib.Core.Path.{◌≡◌, refl, ◌∙◌, sym, ap, ap₂}
use mathlib.Core.Bool.{Bool, true, false}
use mathlib.Core.Logic.{inl, inr, ⊎_elim}
use Rattle.std.specs.Prelude.{Option, None, Some}
use mathlib.Core.List.{List}
use Prim.Native.Nat.{ℕ, suc, ◌+◌, ◌*◌, ◌/◌, ◌%◌, ◌<◌, ◌≤◌}
use native.Mathlib.Nat.{div-add-mod', div-lt_iff_lt-mul, eq-or-lt_of_le}
use native.Mathlib.Omega.{arith}
use borrow.Author.Tests.{eqb-true, eqb-false, eq-eqb, ne_eqb}
use lib.Arith.{digits_lt}
use lib.IntN.{pos}
use Rattle.board.specs.Search.{first_not}
use Rattle.board.proofs.Search.{Searched, searched, all_pass, fails_at, none_of, some_of}
use Rattle.life.specs.Plane.{Plane, on_plane, table_step, StillBy}
use Rattle.life.specs.Calls.{ring_size, next_at, keeps_at, judged, verdict_at, still, changes}
use Rattle.life.specs.Theorems.{Before, FirstChange, JudgeRightBy}
use Rattle.life.proofs.Ring.{place_row, place_column, place_of, row_of_place, column_of_place}
use Rattle.life.proofs.Far.{still_of_ring}

-- "still" is no cell
pub no_change : {r c : ℕ} → still ≡ changes r c → ⊥
no_change e = let z : ◌≡◌ {A = ℕ} 0 1 = cc in omega arith

-- ---- reading order
-- a place is its row times the width, ring counted, and its column
whole : (w k : ℕ) → k / (w + 2) * (w + 2) + k % (w + 2) ≡ k
whole w k = div-add-mod' k (w + 2)

-- an earlier cell has a smaller place
earlier : (w : ℕ) {s d r c : ℕ} → d ≤ w + 1 → Before s d r c → s * (w + 2) + d < r * (w + 2) + c
earlier w {s} {d} {r} {c} q (inl l) = let p = digits_lt {q = s} {m = r} {r = d} {c = w + 2} l (omega arith) in omega arith
earlier w {s} {d} {r} {c} q (inr e) = let p : s * (w + 2) ≡ r * (w + 2) = ap (λ (x : ℕ). x * (w + 2)) e.0 in omega (arith, e.1)

-- a smaller place is an earlier cell
earlier_place : (w : ℕ) {j r c : ℕ} → c ≤ w + 1 → j < r * (w + 2) + c → Before (j / (w + 2)) (j % (w + 2)) r c
earlier_place w {j} {r} {c} q l = ⊎_elim (λ (e : j / (w + 2) ≡ r). inr (same e)) (λ (m : j / (w + 2) < r). inl m) (eq-or-lt_of_le bound)
  where
    bound : j / (w + 2) ≤ r
    bound =
        let p : j / (w + 2) < suc r = (div-lt_iff_lt-mul {k = w + 2} (omega arith)).1 (omega arith) in
        omega arith

    same : j / (w + 2) ≡ r → (j / (w + 2) ≡ r) × (j % (w + 2) < c)
    same e =
        let p : r * (w + 2) + j % (w + 2) ≡ j = rw e at (whole w j) in
        (e, omega arith)

module _ (next : ℕ → ℕ) (w h : ℕ) (cells : List ℕ) where
  abbrev P : Plane
  P = on_plane w h cells

  abbrev test : ℕ → Bool
  test = keeps_at next w h cells

  -- the test at a place, and at a row and a column
  keeps_of : (k : ℕ) → table_step next P (pos (k / (w + 2))) (pos (k % (w + 2))) ≡ P (pos (k / (w + 2))) (pos (k % (w + 2))) → test k ≡ true
  unfolding keeps_at next_at
  keeps_of k e = eq-eqb _ _ e

  kept_at : (r : ℕ) {c : ℕ} → c ≤ w + 1 → test (r * (w + 2) + c) ≡ true → table_step next P (pos r) (pos c) ≡ P (pos r) (pos c)
  unfolding keeps_at next_at
  kept_at r {c} q e =
      let k = r * (w + 2) + c in
      let f : table_step next P (pos (k / (w + 2))) (pos (k % (w + 2))) ≡ P (pos (k / (w + 2))) (pos (k % (w + 2))) = eqb-true _ _ e in
      rw (row_of_place w r q, column_of_place w r q) at f

  changed_at : (k : ℕ) → test k ≡ false → table_step next P (pos (k / (w + 2))) (pos (k % (w + 2))) ≡ P (pos (k / (w + 2))) (pos (k % (w + 2))) → ⊥
  unfolding keeps_at next_at
  changed_at k e = eqb-false _ _ e

  changes_of : (r : ℕ) {c : ℕ} → c ≤ w + 1 → (table_step next P (pos r) (pos c) ≡ P (pos r) (pos c) → ⊥) → test (r * (w + 2) + c) ≡ false
  unfolding keeps_at next_at
  changes_of r q e = rw (row_of_place w r q, column_of_place w r q) (ne_eqb _ _ e)

  -- ---- the verdict
  verdict : judged next w h cells ≡ verdict_at w (first_not test (ring_size w h))
  unfolding judged
  verdict = refl

  of_still : StillBy next P → first_not test (ring_size w h) ≡ None
  unfolding StillBy
  of_still s = none_of test (ring_size w h) (λ k l. keeps_of k (s (pos (k / (w + 2))) (pos (k % (w + 2)))))

  change_of : (r c : ℕ) (o : Option ℕ) → Searched test (ring_size w h) o → verdict_at w o ≡ changes r c → FirstChange (table_step next) w h P r c
  change_of r c None (all_pass all) e = absurd (no_change e)
  change_of r c (Some k) (fails_at _ l f a) e =
      let er : k / (w + 2) ≡ r = cc in
      let ec : k % (w + 2) ≡ c = cc in
      let ek : r * (w + 2) + c ≡ k = rw (er, ec) at (whole w k) in
      record {
        row = rw er at (place_row w h l);
        column = rw ec at (place_column w k);
        changed = rw (er, ec) at (changed_at k f);
        kept = λ s d q m. kept_at s q (a (s * (w + 2) + d) (rw ek at (earlier w q m)));
      }

  of_change : (r c : ℕ) → FirstChange (table_step next) w h P r c → first_not test (ring_size w h) ≡ Some (r * (w + 2) + c)
  of_change r c f =
      some_of test (ring_size w h) (r * (w + 2) + c) (place_of w h f.row f.column) (changes_of r f.column f.changed)
      (λ j l. keeps_of j (f.kept (j / (w + 2)) (j % (w + 2)) (place_column w j) (earlier_place w f.column l)))

  module _ (quiet : next 0 ≡ 0) where
    still_of : (o : Option ℕ) → Searched test (ring_size w h) o → verdict_at w o ≡ still → StillBy next P
    still_of None (all_pass all) e = still_of_ring w h cells next quiet (λ r c p q. kept_at r q (all (r * (w + 2) + c) (place_of w h p q)))
    still_of (Some k) (fails_at _ l f a) e = absurd (no_change (sym e))

pub judge_right : (next : ℕ → ℕ) → next 0 ≡ 0 → JudgeRightBy next
judge_right next quiet w h cells = (
  (
    λ e. still_of next w h cells quiet _ found (sym says ∙ e),
    λ s. says ∙ ap (verdict_at w) (of_still next w h cells s),
  ),
  λ r c. (
    λ e. change_of next w h cells r c _ found (sym says ∙ e),
    λ f. says ∙ ap (verdict_at w) (of_change next w h cells r c f)
        ∙ ap₂ changes (row_of_place w r f.column) (column_of_place w r f.column),
  ),
)
  where
    found : Searched (keeps_at next w h cells) (ring_size w h) (first_not (keeps_at next w h cells) (ring_size w h))
    found = searched (keeps_at next w h cells) (ring_size w h)

    says : judged next w h cells ≡ verdict_at w (first_not (keeps_at next w h cells) (ring_size w h))
    says = verdict next w h cells
