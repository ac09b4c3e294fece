-- A mirror board's cells equal their reflections, and the check of lopsided grids is right.
-- Assumes nothing.
use mathlib.Core.Path.{◌≡◌, sym, ◌∙◌, ap}
use mathlib.Core.Bool.{true, false}
use mathlib.Core.List.{List}
use mathlib.Core.Logic.{⊎_elim}
use Rattle.std.specs.Prelude.{Option, None, Some}
use Prim.Native.Nat.{ℕ, ◌+◌, ◌*◌, ◌-◌, ◌/◌, ◌%◌, ◌<◌, ◌≤◌}
use native.Mathlib.Decide.{dec_lt}
use native.Mathlib.Nat.{mul_comm, add-sub_cancel, div-add-mod', eq-or-lt_of_le}
use native.Mathlib.Omega.{arith}
use borrow.Author.Tests.{eqb-true, eqb-false, eq-eqb, ne_eqb}
use lib.Arith.{digits_lt, digits_div, digits_mod}
use lib.ListN.{length, get_or}
use lib.Seq.{ext_get_or}
use Rattle.board.specs.Answers.{Checked}
use Rattle.board.specs.Boards.{byte_at}
use Rattle.board.specs.Search.{first_not}
use Rattle.board.proofs.Answers.{at_gives, at_refuses, checked_at}
use Rattle.board.proofs.Search.{Searched, searched, all_pass, fails_at, none_of, some_of}
use Rattle.board.proofs.Tests.{byte_at_lem}
use Rattle.turns.specs.Turn.{reflection, source}
use Rattle.turns.proofs.Places.{cell_inside, turned_length, turned_at, turned_cell}
use Rattle.mirror.specs.Mirror.{Mirrored, same_reflected, lopsided_check}
use Rattle.mirror.specs.Theorems.{MirroredCells, reflected_place, FirstLopsided, LopsidedChecksRight}

-- ---- mirror boards, cell by cell
module _ (w h : ℕ) (bytes : List ℕ) (n : length bytes ≡ w * h) where
  cells_same : Mirrored w h bytes → (r k : ℕ) → r < h → k < w → get_or bytes (r * w + (w - 1 - k)) 0 ≡ get_or bytes (r * w + k) 0
  cells_same e r k l m =
      sym (turned_cell reflection w h 0 bytes {s = record { row = r; column = k }} (record { low = l; narrow = m }))
      ∙ ap (λ (b : List ℕ). get_or b (r * w + k) 0) e

  same_cells : ((r k : ℕ) → r < h → k < w → get_or bytes (r * w + (w - 1 - k)) 0 ≡ get_or bytes (r * w + k) 0) → Mirrored w h bytes
  unfolding source
  same_cells f =
      let m = turned_length reflection w h 0 bytes in
      ext_get_or 0 _ _ (m ∙ sym n)
      (λ p l.
      let q : p < w * h = rw m at l in
      let i = cell_inside q in
      turned_at reflection w h 0 bytes q ∙ f (p / w) (p % w) i.low i.narrow ∙ ap (λ (x : ℕ). get_or bytes x 0) (div-add-mod' p w))

pub mirrored_cells : MirroredCells
mirrored_cells w h bytes n = (cells_same w h bytes n, same_cells w h bytes n)

module _ (w h : ℕ) (g : List ℕ) where
  -- ---- the marks at a place and at its reflection's
  abbrev Same : ℕ → Type 0
  Same p = get_or g p 0 ≡ get_or g (reflected_place w p) 0

  first_mark : {p : ℕ} → p < w * h → byte_at w h g (p / w + 1) (p % w + 1) ≡ get_or g p 0
  first_mark {p} l =
      let i = cell_inside l in
      rw (byte_at_lem w h g (p / w + 1) (p % w + 1) (omega arith) (omega (arith, i.low)) (omega arith) (omega (arith, i.narrow)), add-sub_cancel (p / w) 1, add-sub_cancel (p % w) 1, div-add-mod' p w)

  reflected_mark : {p : ℕ} → p < w * h → byte_at w h g (p / w + 1) (w - p % w) ≡ get_or g (reflected_place w p) 0
  reflected_mark {p} l =
      let i = cell_inside l in
      let e : w - p % w - 1 ≡ w - 1 - p % w = omega arith in
      rw (byte_at_lem w h g (p / w + 1) (w - p % w) (omega arith) (omega (arith, i.low)) (omega (arith, i.narrow)) (omega arith), add-sub_cancel (p / w) 1, e)

  same_of : {p : ℕ} → p < w * h → same_reflected w h g p ≡ true → Same p
  same_of l e = sym (first_mark l) ∙ eqb-true _ _ e ∙ reflected_mark l

  of_same : {p : ℕ} → p < w * h → Same p → same_reflected w h g p ≡ true
  of_same l e = eq-eqb _ _ (first_mark l ∙ e ∙ sym (reflected_mark l))

  differs_of : {p : ℕ} → p < w * h → same_reflected w h g p ≡ false → Same p → ⊥
  differs_of l e s = eqb-false _ _ e (first_mark l ∙ s ∙ sym (reflected_mark l))

  of_differs : {p : ℕ} → p < w * h → (Same p → ⊥) → same_reflected w h g p ≡ false
  of_differs l n = ne_eqb _ _ (λ e. n (sym (first_mark l) ∙ e ∙ reflected_mark l))

  -- ---- the first cell whose mark differs: its reflection doesn't come before it, so it is in the left half
  reflected_twice : {p : ℕ} → p % w < w → reflected_place w (reflected_place w p) ≡ p
  reflected_twice {p} l =
      let m : w - 1 - p % w < w = omega arith in
      let e : w - 1 - (w - 1 - p % w) ≡ p % w = omega arith in
      rw (digits_div (p / w) m, digits_mod (p / w) m, e) (div-add-mod' p w)

  in_left : {p : ℕ} → p % w < w → (Same p → ⊥) → ((k : ℕ) → k < p → Same k) → p % w < w / 2
  in_left {p} l n f =
      elim (dec_lt (p % w) (w / 2)) [
        | yes m ↦ m
        | no m ↦
            let q : reflected_place w p ≤ p = omega (arith, div-add-mod' p w) in
            absurd
            (⊎_elim
            (λ (e : reflected_place w p ≡ p). n (ap (λ (x : ℕ). get_or g x 0) (sym e)))
            (λ (b : reflected_place w p < p). n (sym (f (reflected_place w p) b ∙ ap (λ (x : ℕ). get_or g x 0) (reflected_twice l))))
            (eq-or-lt_of_le q))
      ]

  module _ (n : length g ≡ w * h) where
    abbrev found : Option ℕ
    found = first_not (same_reflected w h g) (length g)

    -- ---- no such cell
    none_mirrored : found ≡ None → Mirrored w h g
    none_mirrored e = go found (searched (same_reflected w h g) (length g)) e
      where
        go : (o : Option ℕ) → Searched (same_reflected w h g) (length g) o → o ≡ None → Mirrored w h g
        go None (all_pass f) q =
            same_cells w h g n
            (λ r k l m.
            let b : r * w + k < w * h = rw (mul_comm w h) (digits_lt l m) in
            let s = same_of b (f (r * w + k) (rw n b)) in
            sym (rw (digits_div r m, digits_mod r m) at s))
        go (Some i) (fails_at _ l p f) q = let z : ◌≡◌ {A = ℕ} 0 1 = cc in absurd (omega arith)

    mirrored_none : Mirrored w h g → found ≡ None
    mirrored_none e =
        none_of (same_reflected w h g) (length g)
        (λ p l.
        let b : p < w * h = rw n at l in
        let i = cell_inside b in
        of_same b (sym (cells_same w h g n e (p / w) (p % w) i.low i.narrow ∙ ap (λ (x : ℕ). get_or g x 0) (div-add-mod' p w))))

    -- ---- the first such cell
    first_lopsided : (p : ℕ) → found ≡ Some p → FirstLopsided w h g p
    first_lopsided p e = go found (searched (same_reflected w h g) (length g)) e
      where
        first : (i : ℕ) → i < w * h → same_reflected w h g i ≡ false → ((k : ℕ) → k < i → same_reflected w h g k ≡ true) → FirstLopsided w h g i
        first i l t f =
            let d = differs_of l t in
            let b : (k : ℕ) → k < i → Same k = λ k m. same_of (omega arith) (f k m) in
            record { inside = l; left = in_left (cell_inside l).narrow d b; differs = d; before = b }

        go : (o : Option ℕ) → Searched (same_reflected w h g) (length g) o → o ≡ Some p → FirstLopsided w h g p
        go None (all_pass f) q = let z : ◌≡◌ {A = ℕ} 0 1 = cc in absurd (omega arith)
        go (Some i) (fails_at _ l t f) q = let z : i ≡ p = cc in rw z at (first i (rw n at l) t f)

    found_first : (p : ℕ) → FirstLopsided w h g p → found ≡ Some p
    found_first p F =
        some_of (same_reflected w h g) (length g) p (rw n F.inside) (of_differs F.inside F.differs)
        (λ k l. of_same (omega (arith, F.inside)) (F.before k l))

pub lopsided_checks_right : LopsidedChecksRight
unfolding lopsided_check
lopsided_checks_right w h g n = record {
  passes = (λ e. none_mirrored w h g n (at_gives _ 15 e), λ m. rw (mirrored_none w h g n m));
  turned = λ p. (λ e. first_lopsided w h g n p (at_refuses _ 15 p e), λ F. rw (found_first w h g n p F));
}

-- it answers 15 alone
pub lopsided_checked : (n w h : ℕ) (givens : List ℕ) → (15 ≡ n → ⊥) → Checked n (lopsided_check w h givens)
unfolding lopsided_check
lopsided_checked n w h g p = checked_at n (first_not (same_reflected w h g) (length g)) 15 p
