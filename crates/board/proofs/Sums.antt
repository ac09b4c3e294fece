-- Laws of sums over the numbers below a bound.
-- Assumes nothing.
use mathlib.Core.Path.{◌≡◌, refl}
use Prim.Native.Nat.{ℕ, zero, suc, ◌+◌, ◌*◌, ◌<◌, ◌≤◌}
use native.Mathlib.Nat.{add-zero, add-suc}
use native.Mathlib.Numerals.{add-one}
use native.Mathlib.Omega.{arith}
use Rattle.board.specs.Sums.{total}

-- a loop's turns
pub total_none : (f : ℕ → ℕ) → total f 0 ≡ 0
unfolding total
total_none f = refl

pub total_more : (f : ℕ → ℕ) (n : ℕ) → total f (n + 1) ≡ total f n + f n
unfolding total
total_more f n = rw (add-one n)

-- sums of equal numbers are equal
pub total_same : (f g : ℕ → ℕ) (n : ℕ) → ((k : ℕ) → k < n → f k ≡ g k) → total f n ≡ total g n
unfolding total
total_same f g zero e = refl
total_same f g (suc n) e = rw (total_same f g n (λ k l. e k (omega arith)), e n (omega arith))

-- a sum of sums is the sum of both
pub total_sum : (f g h : ℕ → ℕ) (n : ℕ) → ((k : ℕ) → k < n → f k ≡ g k + h k) → total f n ≡ total g n + total h n
unfolding total
total_sum f g h zero e = refl
total_sum f g h (suc n) e = omega (arith, total_sum f g h n (λ k l. e k (omega arith)), e n (omega arith))

-- of small numbers it is small
pub total_le : (f : ℕ → ℕ) (m : ℕ) → ((k : ℕ) → f k ≤ m) → (n : ℕ) → total f n ≤ n * m
unfolding total
total_le f m l zero = omega arith
total_le f m l (suc n) = omega (arith, total_le f m l n, l n)

-- the first m, and then n more
pub total_add : (f : ℕ → ℕ) (m n : ℕ) → total f (m + n) ≡ total f m + total (λ k. f (m + k)) n
unfolding total
total_add f m zero = rw add-zero (omega arith)
total_add f m (suc n) = rw (add-suc m n) (omega (arith, total_add f m n))
