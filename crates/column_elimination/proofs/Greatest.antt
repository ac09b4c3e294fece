-- Laws of the greatest of the numbers that a function takes below a bound.
-- Assumes nothing.
use mathlib.Core.Path.{◌≡◌, refl}
use mathlib.Core.Bool.{Bool, true, false, cond}
use Prim.Native.Nat.{ℕ, zero, suc, ◌+◌, ◌*◌, ◌<◌, ◌≤◌}
use native.Mathlib.Nat.{le_trans, le_antisymm, add-zero}
use native.Mathlib.Omega.{arith}
use native.Mathlib.Decide.{dec_lt}
use borrow.Author.Tests.{lt-ltb, le-ltb}
use lib.Dec.{ltb}
use Rattle.column_elimination.specs.Columns.{larger, greatest, keep_if}

-- ---- the larger of two
left : (v y : ℕ) → v ≤ larger v y
left v y = elim (dec_lt v y) [ yes h ↦ rw (lt-ltb v y h) (omega arith) | no h ↦ rw (le-ltb v y (omega arith)) (omega arith) ]

right : (v y : ℕ) → y ≤ larger v y
right v y = elim (dec_lt v y) [ yes h ↦ rw (lt-ltb v y h) (omega arith) | no h ↦ rw (le-ltb v y (omega arith)) (omega arith) ]

pub larger_most : (v y m : ℕ) → v ≤ m → y ≤ m → larger v y ≤ m
larger_most v y m p q = go (ltb v y)
  where
    go : (t : Bool) → cond t y v ≤ m
    go true = q
    go false = p

pub larger_zero : (v : ℕ) → larger 0 v ≡ v
larger_zero zero = refl
larger_zero (suc v) = rw (lt-ltb 0 (suc v) (omega arith))

pub larger_none : (v : ℕ) → larger v 0 ≡ v
larger_none v = rw (le-ltb v 0 (omega arith))

pub larger_same : {u v x y : ℕ} → u ≡ x → v ≡ y → larger u v ≡ larger x y
larger_same {u} {v} {x} {y} p q = rw (p, q)

-- four numbers, taken in two orders
four : (p q x y : ℕ) → larger (larger (larger p q) x) y ≡ larger (larger p x) (larger q y)
four p q x y =
    let l = larger (larger p x) (larger q y) in
    let r = larger (larger (larger p q) x) y in
    let lp : p ≤ l = le_trans (left p x) (left (larger p x) (larger q y)) in
    let lx : x ≤ l = le_trans (right p x) (left (larger p x) (larger q y)) in
    let lq : q ≤ l = le_trans (left q y) (right (larger p x) (larger q y)) in
    let ly : y ≤ l = le_trans (right q y) (right (larger p x) (larger q y)) in
    let rpq : larger p q ≤ r = le_trans (left (larger p q) x) (left (larger (larger p q) x) y) in
    let rp : p ≤ r = le_trans (left p q) rpq in
    let rq : q ≤ r = le_trans (right p q) rpq in
    let rx : x ≤ r = le_trans (right (larger p q) x) (left (larger (larger p q) x) y) in
    let ry : y ≤ r = right (larger (larger p q) x) y in
    le_antisymm
    (larger_most (larger (larger p q) x) y l (larger_most (larger p q) x l (larger_most p q l lp lq) lx) ly)
    (larger_most (larger p x) (larger q y) r (larger_most p x r rp rx) (larger_most q y r rq ry))

-- ---- the greatest
pub greatest_same : (f g : ℕ → ℕ) (n : ℕ) → ((c : ℕ) → c < n → f c ≡ g c) → greatest f n ≡ greatest g n
unfolding greatest
greatest_same f g zero h = refl
greatest_same f g (suc n) h = rw (greatest_same f g n (λ c l. h c (omega arith)), h n (omega arith))

-- of the even numbers and of the odd ones
pub greatest_pairs : (f : ℕ → ℕ) (m : ℕ) → greatest f (2 * m) ≡ larger (greatest (λ y. f (2 * y)) m) (greatest (λ y. f (2 * y + 1)) m)
unfolding greatest
greatest_pairs f zero = refl
greatest_pairs f (suc m) =
    let e : 2 * suc m ≡ suc (suc (2 * m)) = omega arith in
    let o : 2 * m + 1 ≡ suc (2 * m) = omega arith in
    let s : greatest f (suc (suc (2 * m))) ≡ larger (larger (greatest f (2 * m)) (f (2 * m))) (f (suc (2 * m))) = refl in
    rw (e, s, greatest_pairs f m, o) (four (greatest (λ y. f (2 * y)) m) (greatest (λ y. f (2 * y + 1)) m) (f (2 * m)) (f (suc (2 * m))))

-- under one test
pub greatest_if : (t : Bool) (f : ℕ → ℕ) (m : ℕ) → greatest (λ y. keep_if t (f y)) m ≡ keep_if t (greatest f m)
unfolding greatest
greatest_if true f m = refl
greatest_if false f zero = refl
greatest_if false f (suc m) = rw (greatest_if false f m)

-- numbers that are none
pub greatest_more : (f : ℕ → ℕ) (n d : ℕ) → ((c : ℕ) → n ≤ c → f c ≡ 0) → greatest f (n + d) ≡ greatest f n
unfolding greatest
greatest_more f n zero h = rw (add-zero n)
greatest_more f n (suc d) h =
    let e : n + suc d ≡ suc (n + d) = omega arith in
    rw (e, greatest_more f n d h, h (n + d) (omega arith), le-ltb (greatest f n) 0 (omega arith))
