-- On the plane the left-right reflection and the one in the diagonal move a board's cells and keep their neighbours, so a still board stays still.
-- Assumes nothing.
use mathlib.Core.Path.{◌≡◌, sym, ◌∙◌, ap, subst, fun_ext}
use mathlib.Core.List.{List}
use Prim.Native.Nat.{ℕ, zero, suc, ◌+◌, ◌-◌, ◌<◌, ◌≤◌}
use native.Mathlib.Omega.{arith}
use native.Mathlib.Decide.{dec_lt}
use borrow.Author.Tests.{lt-ltb, le-ltb}
use lib.ListN.{get_or}
use lib.IntN.{ℤ, pos, negsuc, suc_ℤ, pred_ℤ, neg_ℤ, neg_ℤ-suc_ℤ, neg_ℤ-pred_ℤ, ◌+ℤ◌, +ℤ-suc_ℤ, +ℤ-pred_ℤ}
use Rattle.rule.specs.Rule.{state_under}
use Rattle.rule.specs.declared.Rule.{Rule}
use Rattle.life.specs.Plane.{Plane, on_plane, neighbours, Still}
use Rattle.life.proofs.OnPlane.{Off, before, nought, past, off_row, off_column, on_board}
use Rattle.turns.specs.Turn.{reflection, diagonal, place_in, turned_bytes}
use Rattle.turns.proofs.Cells.{Inside, diagonal_from}
use Rattle.turns.proofs.Places.{turned_cell}

-- ---- planes
-- a map of rows or columns that exchanges the two neighbours of each
record Reverses (f : ℤ → ℤ) : Type 0 where
  up : (r : ℤ) → f (suc_ℤ r) ≡ pred_ℤ (f r)
  down : (r : ℤ) → f (pred_ℤ r) ≡ suc_ℤ (f r)

module _ (P : Plane) (rule : Rule) (S : Still rule P) where
  across_still : {f : ℤ → ℤ} → Reverses f → Still rule (λ r c. P r (f c))
  unfolding Still
  across_still {f} v r c =
      let e : neighbours (λ r c. P r (f c)) r c ≡ neighbours P r (f c) = rw (v.up c, v.down c) (omega arith) in
      ap (state_under rule (P r (f c))) e ∙ S r (f c)

  swapped_still : Still rule (λ r c. P c r)
  unfolding Still
  swapped_still r c =
      let e : neighbours (λ r c. P c r) r c ≡ neighbours P c r = omega arith in
      ap (state_under rule (P c r)) e ∙ S c r

-- ---- rows and columns 1 to n in reverse
abbrev pub flip : ℕ → ℤ → ℤ
flip n r = pos (suc n) +ℤ neg_ℤ r

flip_reverses : (n : ℕ) → Reverses (flip n)
flip_reverses n = record {
  up = λ r. ap (λ x. pos (suc n) +ℤ x) (neg_ℤ-suc_ℤ r) ∙ +ℤ-pred_ℤ (pos (suc n)) (neg_ℤ r);
  down = λ r. ap (λ x. pos (suc n) +ℤ x) (neg_ℤ-pred_ℤ r) ∙ +ℤ-suc_ℤ (pos (suc n)) (neg_ℤ r);
}

-- a row or column is on the board or off it
data Spot (n : ℕ) : ℤ → Type 0 where
  on : (i : ℕ) → i < n → Spot n (pos (suc i))
  off : {r : ℤ} → Off n r → Spot n r

spot : (n : ℕ) (r : ℤ) → Spot n r
spot n (pos zero) = off nought
spot n (pos (suc i)) =
    elim (dec_lt i n) [
      | yes l ↦ on i l
      | no m ↦ off (past (suc i) (omega arith))
    ]
spot n (negsuc k) = off (before k)

pub flip_at : (n i : ℕ) → i ≤ n + 1 → flip n (pos i) ≡ pos (n + 1 - i)
flip_at n zero l = ap pos (omega arith)
flip_at n (suc i) l = rw (le-ltb (suc n) (suc i) (omega arith)) (ap pos (omega arith))

flip_on : (n i : ℕ) → i < n → flip n (pos (suc i)) ≡ pos (suc (n - 1 - i))
flip_on n i l = flip_at n (suc i) (omega arith) ∙ ap pos (omega arith)

flip_off : {n : ℕ} {r : ℤ} → Off n r → Off n (flip n r)
flip_off {n} (before k) = past (suc n + suc k) (omega arith)
flip_off {n} nought = past (suc n + 0) (omega arith)
flip_off {n} (past zero l) = absurd (omega arith)
flip_off {n} (past (suc k) l) =
    elim (dec_lt n k) [
      | yes m ↦ rw (lt-ltb (suc n) (suc k) (omega arith)) (before _)
      | no m ↦ let e : suc n - suc k ≡ 0 = omega arith in rw (le-ltb (suc n) (suc k) (omega arith), e) nought
    ]

-- ---- boards
module _ (w h : ℕ) (xs : List ℕ) where
  pub reflected_plane : (r c : ℤ) → on_plane w h (turned_bytes reflection w h xs) r c ≡ on_plane w h xs r (flip w c)
  reflected_plane r c = go (spot h r) (spot w c)
    where
      go : {r c : ℤ} → Spot h r → Spot w c → on_plane w h (turned_bytes reflection w h xs) r c ≡ on_plane w h xs r (flip w c)
      go (on i p) (on j q) =
          on_board w h (turned_bytes reflection w h xs) i j p q
          ∙ turned_cell reflection w h 0 xs {s = record { row = i; column = j }} (record { low = p; narrow = q })
          ∙ sym (on_board w h xs i (w - 1 - j) p (omega arith))
          ∙ ap (on_plane w h xs (pos (suc i))) (sym (flip_on w j q))
      go {r} {c} (off f) s = off_row w h (turned_bytes reflection w h xs) f c ∙ sym (off_row w h xs f (flip w c))
      go {r} {c} (on i p) (off f) = off_column w h (turned_bytes reflection w h xs) f _ ∙ sym (off_column w h xs (flip_off f) _)

  pub diagonal_plane : (r c : ℤ) → on_plane h w (turned_bytes diagonal w h xs) r c ≡ on_plane w h xs c r
  diagonal_plane r c = go (spot w r) (spot h c)
    where
      go : {r c : ℤ} → Spot w r → Spot h c → on_plane h w (turned_bytes diagonal w h xs) r c ≡ on_plane w h xs c r
      go (on i p) (on j q) =
          let s : Inside h w (record { row = i; column = j }) = record { low = p; narrow = q } in
          on_board h w (turned_bytes diagonal w h xs) i j p q
          ∙ turned_cell diagonal w h 0 xs s
          ∙ ap (λ x. get_or xs (place_in w x) 0) (diagonal_from w h s)
          ∙ sym (on_board w h xs j i q p)
      go {r} {c} (off f) s = off_row h w (turned_bytes diagonal w h xs) f c ∙ sym (off_column w h xs f c)
      go {r} {c} (on i p) (off f) = off_column h w (turned_bytes diagonal w h xs) f _ ∙ sym (off_row w h xs f _)

  module _ (rule : Rule) (S : Still rule (on_plane w h xs)) where
    pub reflected_still : Still rule (on_plane w h (turned_bytes reflection w h xs))
    reflected_still =
        subst (Still rule) (sym (fun_ext λ r. fun_ext λ c. reflected_plane r c)) (across_still (on_plane w h xs) rule S (flip_reverses w))

    pub diagonal_still : Still rule (on_plane h w (turned_bytes diagonal w h xs))
    diagonal_still = subst (Still rule) (sym (fun_ext λ r. fun_ext λ c. diagonal_plane r c)) (swapped_still (on_plane w h xs) rule S)
