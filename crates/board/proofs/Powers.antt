-- Powers of 2 and 4 as the code's shifts compute them, their bounds, and blocks of equal size, as rows and layers are.
-- Assumes nothing.
use mathlib.Core.Path.{◌≡◌, refl, ap}
use Prim.Native.Nat.{ℕ, zero, suc, ◌+◌, ◌*◌, ◌/◌, ◌%◌, ◌^◌, ◌<◌, ◌≤◌}
use native.Mathlib.Nat.{mod-eq_of_lt, one-mul, mul-le-mul, mul-le-mul_right, pow-suc, div-lt_iff_lt-mul, le-div_iff_mul-le}
use native.Mathlib.Omega.{arith}
use borrow.Author.Tests.{le-leb}
use lib.Pow.{pow_pos, pow_mono, pow-add}
use Rattle.board.specs.Boards.{max_width, max_height}
use Rattle.board.specs.Checks.{table_size, table_size_within}

-- ---- blocks
-- block j of h blocks of n ends within them
pub block_room : (j h n : ℕ) → j < h → j * n + n ≤ h * n
block_room j h n l = omega (arith, mul-le-mul_right n l)

-- ---- 2^w
pub two_le : {w : ℕ} → w ≤ max_width → 2 ^ w ≤ 1024
two_le l = pow_mono l

pub two_shift : {w : ℕ} → w ≤ max_width → 1 * 2 ^ w % 2 ^ 64 ≡ 2 ^ w
two_shift {w} l = let b : 2 ^ w ≤ 1024 = two_le l in rw one-mul (mod-eq_of_lt (omega arith))

-- ---- 4^w
pub four_pow : (w : ℕ) → 2 ^ (2 * w) ≡ 4 ^ w
four_pow zero = refl
four_pow (suc w) = let e : 2 * suc w ≡ 2 * w + 2 = omega arith in rw (e, pow-add 2 (2 * w) 2, pow-suc 4 w, four_pow w)

pub four_two : (w : ℕ) → 4 ^ w ≡ 2 ^ w * 2 ^ w
four_two w = let e : 2 * w ≡ w + w = omega arith in rw (← (four_pow w), e) (pow-add 2 w w)

pub four_pos : (w : ℕ) → 0 < 4 ^ w
four_pos w = rw (four_pow w) at (pow_pos (2 * w))

pub four_le : {w : ℕ} → w ≤ max_width → 4 ^ w ≤ 1048576
four_le {w} l = let b : 2 ^ (2 * w) ≤ 2 ^ 20 = pow_mono {j = 20} (omega arith) in rw (four_pow w) at b

-- ---- h × 4^w
pub table_four : (w h : ℕ) → table_size w h ≡ h * (2 ^ w * 2 ^ w)
unfolding table_size
table_four w h = ap (λ (q : ℕ). h * q) (four_two w)

pub table_one : (w : ℕ) → table_size w 1 ≡ 4 ^ w
unfolding table_size
table_one w = omega arith

pub table_le : {w h : ℕ} → w ≤ max_width → h ≤ max_height → table_size w h ≤ 62914560
unfolding table_size
table_le {w} {h} l m = let b : h * 4 ^ w ≤ max_height * 1048576 = mul-le-mul m (four_le l) in omega arith

pub table_shift : {w h : ℕ} → w ≤ max_width → h ≤ max_height → h * 2 ^ (2 * w) % 2 ^ 64 ≡ table_size w h
unfolding table_size
table_shift {w} {h} l m = let b : h * 4 ^ w ≤ 62914560 = table_le l m in rw (four_pow w) (mod-eq_of_lt (omega arith))

pub table_within : {w h : ℕ} → w ≤ max_width → h ≤ max_height → table_size_within w h ≡ table_size w h
unfolding table_size_within
table_within {w} {h} l m = rw (le-leb w max_width l, le-leb h max_height m)

-- a number is below it exactly where a shift by 2 w leaves less than h
pub shift_short : (w h x : ℕ) → x / 2 ^ (2 * w) < h → x < table_size w h
unfolding table_size
shift_short w h x l = rw (← (four_pow w)) ((div-lt_iff_lt-mul (pow_pos (2 * w))).0 l)

pub shift_long : (w h x : ℕ) → h ≤ x / 2 ^ (2 * w) → table_size w h ≤ x
unfolding table_size
shift_long w h x l = rw (← (four_pow w)) ((le-div_iff_mul-le (pow_pos (2 * w))).0 l)

-- no rows want no entries, and from width 32 on a row wants more than any table has
pub table_none : (w x : ℕ) → table_size w 0 ≤ x
unfolding table_size
table_none w x = omega arith

pub table_wide : (w h : ℕ) {x : ℕ} → 31 < w → 0 < h → x < 2 ^ 64 → x < table_size w h
unfolding table_size
table_wide w h {x} l m b =
    let p : 2 ^ 64 ≤ 2 ^ (2 * w) = pow_mono {i = 64} (omega arith) in
    let q : 1 * 2 ^ 64 ≤ h * 2 ^ (2 * w) = mul-le-mul m p in
    rw (← (four_pow w)) (omega arith)
