-- Laws of the skip: the rows before its end share columns 1 to j + 1 with the row that failed.
-- Assumes nothing.
use mathlib.Core.Path.{◌≡◌, ◌∙◌, ap}
use Prim.Native.Nat.{ℕ, ◌+◌, ◌*◌, ◌-◌, ◌/◌, ◌^◌, ◌<◌, ◌≤◌}
use native.Mathlib.Nat.{div-eq_of_lt-le, div-mul-le_self, lt-div-mul-add, div-lt_iff_lt-mul, mul-le-mul_right, le_trans, add-mul, one-mul}
use native.Mathlib.Omega.{arith}
use lib.Pow.{pow_pos, pow-add}
use Rattle.score_table.specs.Inner.{skip_to}

pub skipped_same : (w x j y : ℕ) → x ≤ y → y < skip_to w x j → y / 2 ^ (w - (j + 1)) ≡ x / 2 ^ (w - (j + 1))
unfolding skip_to
skipped_same w x j y l u = div-eq_of_lt-le (2 ^ (w - (j + 1))) (le_trans (div-mul-le_self x (2 ^ (w - (j + 1)))) l) u

pub skip_past : (w x j : ℕ) → x < skip_to w x j
unfolding skip_to
skip_past w x j = rw (add-mul (x / 2 ^ (w - (j + 1))) 1 (2 ^ (w - (j + 1))), one-mul) (lt-div-mul-add (pow_pos (w - (j + 1))))

pub skip_within : (w x j : ℕ) → x < 2 ^ w → skip_to w x j ≤ 2 ^ w
unfolding skip_to
skip_within w x j h =
    let s = w - (j + 1) in
    let e : w ≡ w - s + s = omega arith in
    let p : 2 ^ w ≡ 2 ^ (w - s) * 2 ^ s = ap (λ (k : ℕ). 2 ^ k) e ∙ pow-add 2 (w - s) s in
    let q : x / 2 ^ s < 2 ^ (w - s) = (div-lt_iff_lt-mul (pow_pos s)).1 (rw p at h) in
    rw p (mul-le-mul_right (2 ^ s) (omega arith))
