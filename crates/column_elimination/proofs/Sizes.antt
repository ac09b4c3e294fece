-- Laws of the sizes of runs, and of products that the code makes.
-- Assumes nothing.
use mathlib.Core.Path.{◌≡◌, ◌∙◌, sym, ap}
use Prim.Native.Nat.{ℕ, ◌+◌, ◌*◌, ◌-◌, ◌/◌, ◌%◌, ◌^◌, ◌≤◌, ◌<◌}
use native.Mathlib.Nat.{mul-le-mul_right, mul_comm, mul_assoc}
use native.Mathlib.Omega.{arith}
use lib.Arith.{digits_div, digits_mod}
use lib.Pow.{pow-add, pow-lt, pow_pos}
use Rattle.board.specs.Boards.{max_width}
use Rattle.board.proofs.Powers.{two_le}

-- a quotient and a rest, from their parts
pub quot : (P q g x : ℕ) → g < P → x ≡ q * P + g → x / P ≡ q
quot P q g x low is = ap (λ (n : ℕ). n / P) is ∙ digits_div q low

pub rest : (P q g x : ℕ) → g < P → x ≡ q * P + g → x % P ≡ g
rest P q g x low is = ap (λ (n : ℕ). n % P) is ∙ digits_mod q low

-- a shift of 1
pub one_shift : (k : ℕ) → k < 64 → 1 * 2 ^ k % 2 ^ 64 ≡ 2 ^ k
one_shift k h = let l : 2 ^ k < 2 ^ 64 = pow-lt h in rw (native.Mathlib.Nat.one-mul (2 ^ k)) (native.Mathlib.Nat.mod-eq_of_lt l)

-- a column: n is what a run has of eights, and `to` the number of its halves
module _ (w j n to : ℕ) (narrow : w ≤ max_width) (inside : j < w) (en : n ≡ 2 ^ (w - 1 - j)) (et : to ≡ 2 ^ (j + 1)) where
  pub halves_fill : to * (32 * n) ≡ 32 * 2 ^ w
  halves_fill =
      let e : j + 1 + (w - 1 - j) ≡ w = omega arith in
      let f : to * n ≡ 2 ^ w = rw (et, en, ← pow-add 2 (j + 1) (w - 1 - j), e) in
      sym (mul_assoc to 32 n) ∙ rw (mul_comm to 32, mul_assoc 32 to n, f)

  pub run_is : 2 ^ (w + 2 - j) ≡ 8 * n
  run_is = let e : w + 2 - j ≡ 3 + (w - 1 - j) = omega arith in rw (e, en) (pow-add 2 3 (w - 1 - j))

  pub run_some : 0 < n
  run_some = rw en (pow_pos (w - 1 - j))

  vector_fits : 32 * 2 ^ w ≤ 32768
  vector_fits = let l : 2 ^ w ≤ 1024 = two_le narrow in omega arith

  -- half p
  module _ (p : ℕ) (lt : p < to) where
    pub low_room : (p - p % 2) * (32 * n) + 64 * n ≤ 32768
    low_room =
        let two : to ≡ 2 ^ j * 2 = et ∙ pow-add 2 j 1 in
        let l : p - p % 2 + 2 ≤ to = omega arith in
        omega (arith, mul-le-mul_right (32 * n) l, halves_fill, vector_fits)

    pub out_room : p * (32 * n) + 32 * n ≤ 32768
    out_room = omega (arith, mul-le-mul_right (32 * n) lt, halves_fill, vector_fits)
