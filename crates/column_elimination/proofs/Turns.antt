-- What a turn of each loop adds to the numbers written.
-- Assumes nothing.
use mathlib.Core.Path.{◌≡◌, refl, ◌∙◌, sym, ap}
use mathlib.Core.List.{List}
use Prim.Native.Nat.{ℕ, ◌+◌, ◌*◌, ◌-◌, ◌/◌, ◌%◌, ◌≤◌, ◌<◌}
use native.Mathlib.Omega.{arith}
use borrow.Author.Tests.{lt-ltb, le-ltb}
use native.Mathlib.Nat.{mul_assoc, mul_comm, add-mul, one-mul, mod-lt, div-add-mod', div-lt_iff_lt-mul}
use lib.Bits.{bit_and}
use lib.ListN.{get_or}
use lib.Pow.{shr-shr}
use Rattle.life.specs.Rows.{window}
use Rattle.column_elimination.specs.Columns.{scored, loaded, mix, crossed, column_mask, last_pair, last_mask}
use Rattle.column_elimination.specs.Written.{Wrote}
use Rattle.column_elimination.proofs.Writing.{wrote_join, wrote_same}
use Rattle.column_elimination.proofs.Sizes.{quot, rest}

-- eight lanes more of a run
pub part_turn : (src masks : List ℕ) (i k m o x : ℕ) {a b c : List ℕ}
    → Wrote o (8 * x) (λ y. mix src masks (i + y) (k + y) m (y % 8)) a b
    → Wrote (o + 8 * x) 8 (λ y. mix src masks (i + 8 * x + y) (k + 8 * x + y) m y) b c
    → Wrote o (8 * (x + 1)) (λ y. mix src masks (i + y) (k + y) m (y % 8)) a c
part_turn src masks i k m o x S W =
    wrote_same
    (wrote_join S W refl λ y h.
    let p : i + 8 * x + y ≡ i + (8 * x + y) = omega arith in
    let q : k + 8 * x + y ≡ k + (8 * x + y) = omega arith in
    let e : (8 * x + y) % 8 ≡ y = omega arith in
    rw (p, q, e))
    (omega arith) (λ y h. refl)

-- the numbers loaded, and none after them
pub load_turn : (limit n : ℕ) (gains table : List ℕ) (first c : ℕ) {a b d : List ℕ} → c < n → Wrote 0 (8 * c) (loaded limit n gains table first) a b
    → Wrote (8 * c) 8 (λ l. scored limit (get_or gains c 0) (get_or table (first + c + l * n) 0)) b d → Wrote 0 (8 * (c + 1)) (loaded limit n gains table first) a d
unfolding loaded
load_turn limit n gains table first c h S W =
    wrote_same
    (wrote_join S W (omega arith) λ l k.
    let y = 8 * c + l in
    let m : y % 8 ≡ l = omega arith in
    let d : y / 8 ≡ c = omega arith in
    let p : first + c + l * n ≡ first + l * n + c = omega arith in
    sym (rw (lt-ltb y (8 * n) (omega arith), m, d, p)))
    (omega arith) (λ y k. refl)

load_past : (limit n : ℕ) (gains table : List ℕ) (first y : ℕ) → 8 * n ≤ y → 0 ≡ loaded limit n gains table first y
unfolding loaded
load_past limit n gains table first y h = sym (rw (le-ltb y (8 * n) h))

pub load_end : (limit n y z : ℕ) (gains table : List ℕ) (first : ℕ) {a b c : List ℕ} → y ≡ 8 * n → z ≡ 32 * n → Wrote 0 y (loaded limit n gains table first) a b → Wrote (8 * n) (z - 8 * n) (λ p. 0) b c
    → Wrote 0 (32 * n) (loaded limit n gains table first) a c
load_end limit n y z gains table first e f S W =
    wrote_same (wrote_join S W (omega arith) (λ p h. load_past limit n gains table first (y + p) (omega arith))) (omega arith) (λ p h. refl)

-- one run more of four, the t-th: g is what `part` writes
pub half_turn : (src masks : List ℕ) (i m n o t i' k' m' o' : ℕ) {a b c : List ℕ} → 0 < n → i' ≡ i + t * (8 * n) → k' ≡ i + 32 * n + t * (8 * n) → m' ≡ m + 8 * t → o' ≡ o + t * (8 * n)
    → Wrote o (t * (8 * n)) (λ y. mix src masks (i + y) (i + 32 * n + y) (m + 8 * (y / (8 * n))) (y % 8)) a b
    → Wrote o' (8 * n) (λ y. mix src masks (i' + y) (k' + y) m' (y % 8)) b c
    → Wrote o ((t + 1) * (8 * n)) (λ y. mix src masks (i + y) (i + 32 * n + y) (m + 8 * (y / (8 * n))) (y % 8)) a c
half_turn src masks i m n o t i' k' m' o' pos ei ek em eo S W =
    let f : t * (8 * n) ≡ 8 * (t * n) = sym (mul_assoc t 8 n) ∙ rw (mul_comm t 8) (mul_assoc 8 t n) in
    wrote_same
    (wrote_join S W eo λ y h.
    let u : (t * (8 * n) + y) / (8 * n) ≡ t = quot (8 * n) t y (t * (8 * n) + y) h refl in
    let p : i' + y ≡ i + (t * (8 * n) + y) = omega arith in
    let q : k' + y ≡ i + 32 * n + (t * (8 * n) + y) = omega arith in
    let z : (t * (8 * n) + y) % 8 ≡ y % 8 = omega arith in
    rw (p, q, em, u, z))
    (sym (add-mul t 1 (8 * n) ∙ rw (one-mul (8 * n)))) (λ y h. refl)

-- one half more of a column: p is the cells of row a so far
pub column_turn : (src masks : List ℕ) (n p q : ℕ) {a b c : List ℕ} → 0 < n → q ≡ 8 * n
    → Wrote 0 (p * (32 * n)) (crossed src masks q) a b
    → Wrote (p * (32 * n)) (32 * n) (λ y. mix src masks ((p - p % 2) * (32 * n) + y) ((p - p % 2) * (32 * n) + 32 * n + y) (64 * (p % 8) + 8 * (y / (8 * n))) (y % 8)) b c
    → Wrote 0 ((p + 1) * (32 * n)) (crossed src masks q) a c
unfolding crossed
column_turn src masks n p q pos eq S W =
    wrote_same
    (wrote_join S W (omega arith) λ y h.
    let N = 8 * n in
    let v = y / N in
    let t = y % N in
    let lt : t < N = mod-lt y (omega arith) in
    let is : v * N + t ≡ y = div-add-mod' y N in
    let lv : v < 4 = (div-lt_iff_lt-mul (let z : 0 < N = omega arith in z)).1 (let z : y < 4 * N = omega arith in z) in
    let r = 4 * p + v in
    let x = p * (32 * n) + y in
    let f : p * (32 * n) ≡ 4 * p * N = rw (mul_comm 4 p, mul_assoc p 4 N) (ap (λ (m : ℕ). p * m) (omega arith)) in
    let g : x ≡ r * N + t = rw (add-mul (4 * p) v N) (omega arith) in
    let d : x / N ≡ r = quot N r t x lt g in
    let m : x % N ≡ t = rest N r t x lt g in
    let r4 : r / 4 ≡ p = omega arith in
    let rm : r % 4 ≡ v = omega arith in
    let e : r - p % 2 * 4 ≡ 4 * (p - p % 2) + v = omega arith in
    let b₀ : (p - p % 2) * (32 * n) ≡ 4 * (p - p % 2) * N = rw (mul_comm 4 (p - p % 2), mul_assoc (p - p % 2) 4 N) (ap (λ (m : ℕ). (p - p % 2) * m) (omega arith)) in
    let i₀ : (4 * (p - p % 2) + v) * N + t ≡ (p - p % 2) * (32 * n) + y = rw (add-mul (4 * (p - p % 2)) v N) (omega arith) in
    let i₁ : (4 * (p - p % 2) + v + 4) * N + t ≡ (p - p % 2) * (32 * n) + 32 * n + y =
    rw (add-mul (4 * (p - p % 2) + v) 4 N, add-mul (4 * (p - p % 2)) v N) (omega arith) in
    let z : x % 8 ≡ y % 8 = omega (arith, ap (λ (m : ℕ). 8 * m) (mul_comm p (4 * n)), let k : p * (32 * n) ≡ 8 * (p * (4 * n)) = rw (← mul_assoc 8 p (4 * n), mul_comm 8 p, mul_assoc p 8 (4 * n)) (ap (λ (m : ℕ). p * m) (omega arith)) in k) in
    sym (rw (eq, d, m, r4, rm, e, i₀, i₁, z)))
    (sym (add-mul p 1 (32 * n) ∙ rw (one-mul (32 * n)))) (λ y h. refl)

-- ---- eight masks more
-- of a column: `at` has the places of eight rows' patterns
pub masks_turn : (keep : List ℕ) (w b j t : ℕ) (at : List ℕ) {a c d : List ℕ} → ((l : ℕ) → l < 8 → get_or at l 0 ≡ 8 * window w (b + l) j)
    → Wrote 0 (8 * t) (column_mask keep w b j) a c → Wrote (8 * t) 8 (λ l. get_or keep (64 * (t / 8) + t % 8 + get_or at l 0) 0) c d
    → Wrote 0 (8 * (t + 1)) (column_mask keep w b j) a d
unfolding column_mask
masks_turn keep w b j t at X S W =
    wrote_same
    (wrote_join S W (omega arith) λ l k.
    let x = 8 * t + l in
    let m : x % 8 ≡ l = omega arith in
    let o : x / 8 ≡ t = omega arith in
    let a : x / 64 ≡ t / 8 = sym (shr-shr x 3 3) ∙ ap (λ (z : ℕ). z / 8) o in
    let c : x / 8 % 8 ≡ t % 8 = ap (λ (z : ℕ). z % 8) o in
    let e : get_or at l 0 ≡ 8 * window w (b + l) j = X l k in
    let p : 64 * (t / 8) + t % 8 + get_or at l 0 ≡ 64 * (t / 8) + 8 * window w (b + l) j + t % 8 = omega arith in
    rw (p, m, a, c))
    (omega arith) (λ y k. refl)

-- of the last two columns: `at` has the places in column w, and `past` those in column w + 1
pub last_turn : (keep : List ℕ) (w b t : ℕ) (at past : List ℕ) {a c d : List ℕ}
    → ((l : ℕ) → l < 8 → get_or at l 0 ≡ 8 * window w (b + l) w) → ((l : ℕ) → l < 8 → get_or past l 0 ≡ 8 * window w (b + l) (w + 1))
    → Wrote 0 (8 * t) (last_mask keep w b) a c
    → Wrote (8 * t) 8 (λ l. bit_and (get_or keep (128 * (t / 4) + 2 * (t % 4) + get_or at l 0) 0) (get_or keep (256 * (t / 4 % 2) + 4 * (t % 2) + get_or past l 0) 0)) c d
    → Wrote 0 (8 * (t + 1)) (last_mask keep w b) a d
unfolding last_mask last_pair
last_turn keep w b t at past X Y S W =
    wrote_same
    (wrote_join S W (omega arith) λ l k.
    let x = 8 * t + l in
    let m : x % 8 ≡ l = omega arith in
    let o : x / 8 ≡ t = omega arith in
    let a : x / 32 ≡ t / 4 = sym (shr-shr x 3 2) ∙ ap (λ (z : ℕ). z / 4) o in
    let c : x / 8 % 4 ≡ t % 4 = ap (λ (z : ℕ). z % 4) o in
    let e : get_or at l 0 ≡ 8 * window w (b + l) w = X l k in
    let f : get_or past l 0 ≡ 8 * window w (b + l) (w + 1) = Y l k in
    let p : 128 * (t / 4) + 2 * (t % 4) + get_or at l 0 ≡ 64 * (2 * (t / 4)) + 8 * window w (b + l) w + 2 * (t % 4) = omega arith in
    let q : 256 * (t / 4 % 2) + 4 * (t % 2) + get_or past l 0 ≡ 64 * (4 * (t / 4 % 2)) + 8 * window w (b + l) (w + 1) + 4 * (t % 4 % 2) = omega arith in
    rw (p, q, m, a, c))
    (omega arith) (λ y k. refl)
