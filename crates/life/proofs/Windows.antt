-- A row's window is its three cells: four times its number has the row's digits with two dead cells on the right.
-- Assumes nothing.
use mathlib.Core.Path.{◌≡◌, ◌∙◌}
use Prim.Native.Nat.{ℕ, zero, suc, ◌+◌, ◌*◌, ◌-◌, ◌/◌, ◌%◌, ◌^◌, ◌<◌, ◌≤◌}
use native.Mathlib.Nat.{div-eq_of_lt}
use native.Mathlib.Omega.{arith}
use native.Mathlib.Decide.{dec_lt}
use lib.Arith.{mod-mul}
use lib.Dec.{lit<}
use lib.IntN.{pos, pred_ℤ, suc_ℤ}
use lib.Pow.{pow-add, shr-shr}
use Rattle.life.specs.Rows.{cell_of}
use Rattle.life.specs.Theorems.{WindowRight}
use Rattle.board.proofs.Tests.{among_yes, among_past}

module _ (w row : ℕ) (l : row < 2 ^ w) where
  -- past the row's digits
  high : (d : ℕ) → w + 2 ≤ d → 4 * row / 2 ^ d ≡ 0
  high d m =
      let e : w + (2 + (d - (w + 2))) ≡ d = omega arith in
      let p : 2 ^ (w + 2) ≡ 2 ^ w * 4 = pow-add 2 w 2 in
      let q : 4 * row / 2 ^ (w + 2) ≡ 0 = div-eq_of_lt (rw p (omega arith)) in
      let f : (w + 2) + (d - (w + 2)) ≡ d = omega arith in
      rw (← f, ← (shr-shr (4 * row) (w + 2) (d - (w + 2))), q) (native.Mathlib.Nat.zero-div (2 ^ (d - (w + 2))))

  -- the digit of column c
  digit_at_lem : (c : ℕ) → c ≤ w + 2 → 4 * row / 2 ^ (w + 2 - c) % 2 ≡ cell_of w row (pos c)
  unfolding cell_of
  digit_at_lem zero m = rw (high (w + 2 - 0) (omega arith))
  digit_at_lem (suc c) m =
      elim (dec_lt c w) [
        | yes k ↦
            let e : w + 2 - suc c ≡ 2 + (w - suc c) = omega arith in
            let q : 4 * row / 2 ^ 2 ≡ row = omega arith in
            rw (among_yes w (suc c) (omega arith) k, e, ← (shr-shr (4 * row) 2 (w - suc c)), q)
        | no k ↦ rw (among_past w (suc c) (omega arith)) (past_right c (omega arith) m)
      ]
    where
      past_right : (c : ℕ) → w ≤ c → suc c ≤ w + 2 → 4 * row / 2 ^ (w + 2 - suc c) % 2 ≡ 0
      past_right c p q =
          elim (dec_lt w c) [
            | yes k ↦ let e : w + 2 - suc c ≡ 0 = omega arith in rw e (omega arith)
            | no k ↦ let e : w + 2 - suc c ≡ 1 = omega arith in rw e (omega arith)
          ]

  -- the digit before column c
  digit_before : (c : ℕ) → c ≤ w + 1 → 4 * row / 2 ^ (w + 1 - c + 2) % 2 ≡ cell_of w row (pred_ℤ (pos c))
  unfolding cell_of
  digit_before zero m = rw (high (w + 1 - 0 + 2) (omega arith))
  digit_before (suc c) m = let e : w + 1 - suc c + 2 ≡ w + 2 - c = omega arith in rw e (digit_at_lem c (omega arith))

-- three digits
three_digits : (x : ℕ) → x % 8 ≡ 4 * (x / 2 ^ 2 % 2) + 2 * (x / 2 ^ 1 % 2) + x % 2
three_digits x = omega (arith, mod-mul x {m = 2} {c = 4} (lit< tt) (lit< tt), mod-mul x {m = 2} {c = 2} (lit< tt) (lit< tt))

pub window_right : WindowRight
window_right w row c l m =
    let s = w + 1 - c in
    let a : 4 * row / 2 ^ s / 2 ^ 2 % 2 ≡ cell_of w row (pred_ℤ (pos c)) = rw (shr-shr (4 * row) s 2) (digit_before w row l c m) in
    let e : s + 1 ≡ w + 2 - c = omega arith in
    let b : 4 * row / 2 ^ s / 2 ^ 1 % 2 ≡ cell_of w row (pos c) = rw (shr-shr (4 * row) s 1, e) (digit_at_lem w row l c (omega arith)) in
    let f : s ≡ w + 2 - suc c = omega arith in
    let d : 4 * row / 2 ^ s % 2 ≡ cell_of w row (suc_ℤ (pos c)) = rw f (digit_at_lem w row l (suc c) (omega arith)) in
    three_digits (4 * row / 2 ^ s) ∙ rw (a, b, d)
