-- What the code writes in eight lanes is what is held for eight rows.
-- Assumes nothing.
use mathlib.Core.Path.{◌≡◌, refl, ◌∙◌, sym, ap}
use mathlib.Core.Bool.{Bool, true, false, ◌&&◌}
use mathlib.Core.List.{List}
use Prim.Native.Nat.{ℕ, suc, ◌+◌, ◌*◌, ◌-◌, ◌/◌, ◌%◌, ◌^◌, ◌<◌, ◌≤◌}
use native.Mathlib.Nat.{div-add-mod', mul_assoc, mul_comm, add-mul, mod-lt, mul-le-mul_right, div-lt_iff_lt-mul, mod-eq_of_lt}
use native.Mathlib.Omega.{arith}
use native.Mathlib.Decide.{dec_lt}
use lib.Bits.{bit_and, and_mask, and_zero_r}
use lib.Dec.{ltb, lit<}
use lib.ListN.{length, get_or}
use lib.Pow.{pow_pos, pow-add}
use borrow.Author.Tests.{lt-ltb, le-ltb}
use Rattle.life.specs.Rows.{window}
use Rattle.column_elimination.specs.Columns.{larger, keep_if, mask_of, column_kept, held, start_number, loaded, mix, crossed, Keeps, column_mask, last_pair, last_mask, after_last, VectorHolds, Small}
use Rattle.column_elimination.specs.Written.{Wrote}
use Rattle.column_elimination.proofs.Writing.{wrote_at}
use Rattle.column_elimination.proofs.Sizes.{quot, rest}
use Rattle.column_elimination.proofs.Greatest.{larger_same}
use Rattle.column_elimination.proofs.Elimination.{keep_both, held_most}

-- ---- numbers
-- a mask of 16 bits
masked : (t : Bool) (v : ℕ) → v ≤ 65535 → bit_and v (mask_of t) ≡ keep_if t v
masked true v h = let m : bit_and v 65535 ≡ v % 65536 = and_mask v 16 in m ∙ mod-eq_of_lt (omega arith)
masked false v h = and_zero_r v

-- two masks together
both : (p q : Bool) → bit_and (mask_of p) (mask_of q) ≡ mask_of (p && q)
both true true = refl
both true false = refl
both false true = refl
both false false = refl

-- ---- masks by the table of patterns
module _ (next : ℕ → ℕ) (keep : List ℕ) (K : Keeps next keep) where
  -- of a pattern in column j
  pattern_mask : (w b j u v : ℕ) → u < 8 → v < 8 → get_or keep (64 * u + 8 * window w b j + v) 0 ≡ mask_of (column_kept next w b j u v)
  pattern_mask w b j u v lu lv =
      let m : window w b j < 8 = mod-lt (4 * b / 2 ^ (w + 1 - j)) (lit< tt) in
      K.at (64 * u + 8 * window w b j + v) (omega arith)

  -- of a column
  column_mask_lem : (w b j u v l t : ℕ) → u < 8 → v < 8 → l < 8 → t ≡ 64 * u + 8 * v + l → column_mask keep w b j t ≡ mask_of (column_kept next w (b + l) j u v)
  unfolding column_mask
  column_mask_lem w b j u v l t lu lv ll e =
      let a : t / 64 ≡ u = omega arith in
      let d : t / 8 % 8 ≡ v = omega arith in
      let m : t % 8 ≡ l = omega arith in
      rw (a, d, m) (pattern_mask w (b + l) j u v lu lv)

  -- of the last two
  last_mask_lem : (w b a c l t : ℕ) → a < 4 → c < 4 → l < 8 → t ≡ 32 * a + 8 * c + l
      → last_mask keep w b t ≡ mask_of (column_kept next w (b + l) w (2 * a) (2 * c) && column_kept next w (b + l) (w + 1) (4 * (a % 2)) (4 * (c % 2)))
  unfolding last_mask last_pair
  last_mask_lem w b a c l t la lc ll e =
      let x : t / 32 ≡ a = omega arith in
      let y : t / 8 % 4 ≡ c = omega arith in
      let z : t % 8 ≡ l = omega arith in
      rw (
        x,
        y,
        z,
        pattern_mask w (b + l) w (2 * a) (2 * c) (omega arith) (omega arith),
        pattern_mask w (b + l) (w + 1) (4 * (a % 2)) (4 * (c % 2)) (omega arith) (omega arith),
      )
      (both (column_kept next w (b + l) w (2 * a) (2 * c)) (column_kept next w (b + l) (w + 1) (4 * (a % 2)) (4 * (c % 2))))

-- ---- the numbers loaded
pub load_holds : (next : ℕ → ℕ) (limit w b : ℕ) (gains table : List ℕ) (first : ℕ) {old new : List ℕ} → Wrote 0 (32 * 2 ^ w) (loaded limit (2 ^ w) gains table first) old new
    → 32 * 2 ^ w ≤ length old → VectorHolds next w b (λ l. start_number limit w (λ c. get_or gains c 0) (λ c. get_or table (first + l * 2 ^ w + c) 0)) 0 new
unfolding held loaded start_number
load_holds next limit w b gains table first W room = record {
  at = λ x l h k.
      let y = 8 * x + l in
      let m : y % 8 ≡ l = omega arith in
      let d : y / 8 ≡ x = omega arith in
      let z : ltb y (8 * 2 ^ w) ≡ ltb x (2 ^ w) =
      elim (dec_lt x (2 ^ w)) [ yes q ↦ lt-ltb y (8 * 2 ^ w) (omega arith) ∙ sym (lt-ltb x (2 ^ w) q) | no q ↦ le-ltb y (8 * 2 ^ w) (omega arith) ∙ sym (le-ltb x (2 ^ w) (omega arith)) ] in
      wrote_at W room y (omega arith) ∙ rw (m, d, z);
}

-- ---- a column
-- x reads r runs of Q places, and t; P is 4 Q
module _ (Q r t x : ℕ) (low : t < Q) (is : x ≡ r * Q + t) where
  high_x : x / (4 * Q) ≡ r / 4
  high_x =
      let e : r * Q ≡ r / 4 * (4 * Q) + r % 4 * Q =
      ap (λ (n : ℕ). n * Q) (let f : r ≡ r / 4 * 4 + r % 4 = omega arith in f) ∙ add-mul (r / 4 * 4) (r % 4) Q ∙ rw (mul_assoc (r / 4) 4 Q) in
      let l : r % 4 * Q + t < 4 * Q = omega (arith, mul-le-mul_right Q (let z : r % 4 < 4 = omega arith in z)) in
      quot (4 * Q) (r / 4) (r % 4 * Q + t) x l (omega arith)

  cells_x : 4 * x / (4 * Q) ≡ r
  cells_x =
      let e : 4 * x ≡ r * (4 * Q) + 4 * t = rw (is, ← mul_assoc r 4 Q, mul_comm r 4, mul_assoc 4 r Q) (omega arith) in
      quot (4 * Q) r (4 * t) (4 * x) (omega arith) e

  low_x : (r - r / 4 % 2 * 4) * Q + t ≡ x - x / (4 * Q) % 2 * (4 * Q)
  low_x =
      let e = r - r / 4 % 2 * 4 in
      let f : r * Q ≡ e * Q + r / 4 % 2 * (4 * Q) =
      ap (λ (n : ℕ). n * Q) (let f : r ≡ e + r / 4 % 2 * 4 = omega arith in f) ∙ add-mul e (r / 4 % 2 * 4) Q ∙ rw (mul_assoc (r / 4 % 2) 4 Q) in
      rw high_x (omega arith)

  -- in lane l
  module _ (l : ℕ) (lane : l < 8) where
    in_lane : 8 * x + l ≡ r * (8 * Q) + (8 * t + l)
    in_lane = rw (is, ← mul_assoc r 8 Q, mul_comm r 8, mul_assoc 8 r Q) (omega arith)

    run_y : (8 * x + l) / (8 * Q) ≡ r
    run_y = quot (8 * Q) r (8 * t + l) (8 * x + l) (omega arith) in_lane

    rest_y : (8 * x + l) % (8 * Q) ≡ 8 * t + l
    rest_y = rest (8 * Q) r (8 * t + l) (8 * x + l) (omega arith) in_lane

    place_y : (e : ℕ) → e * (8 * Q) + (8 * t + l) ≡ 8 * (e * Q + t) + l
    place_y e = rw (← mul_assoc e 8 Q, mul_comm e 8, mul_assoc 8 e Q) (omega arith)

module _ (next : ℕ → ℕ) (keep : List ℕ) (K : Keeps next keep) (w b j : ℕ) (inside : j < w) (f : ℕ → ℕ → ℕ) (small : Small f) (src masks : List ℕ)
    (H : VectorHolds next w b f j src) (M : (t : ℕ) → t < 512 → get_or masks t 0 ≡ column_mask keep w b j t) where
  -- one of the two numbers
  half : (x l u v : ℕ) → x < 4 * 2 ^ w → l < 8 → u < 8 → v < 8
      → bit_and (get_or src (8 * x + l) 0) (get_or masks (64 * u + 8 * v + l) 0) ≡ keep_if (column_kept next w (b + l) j u v) (held next w (b + l) (f l) j x)
  half x l u v lx ll lu lv =
      let t = 64 * u + 8 * v + l in
      rw (H.at x l lx ll, M t (omega arith) ∙ column_mask_lem next keep K w b j u v l t lu lv ll refl) (masked (column_kept next w (b + l) j u v) (held next w (b + l) (f l) j x) (held_most next w (b + l) (f l) 65535 (small l) j x))

  pub column_holds : {old new : List ℕ} → Wrote 0 (32 * 2 ^ w) (crossed src masks (2 ^ (w + 2 - j))) old new → 32 * 2 ^ w ≤ length old → VectorHolds next w b f (j + 1) new
  unfolding held crossed mix
  column_holds W long = record {
    at = λ x l lx ll.
        let Q = 2 ^ (w - 1 - j) in
        let eq : 2 ^ (w + 2 - j) ≡ 8 * Q = ap (λ (n : ℕ). 2 ^ n) (let e : w + 2 - j ≡ 3 + (w - 1 - j) = omega arith in e) ∙ pow-add 2 3 (w - 1 - j) in
        let ep : 2 ^ (w + 1 - j) ≡ 4 * Q = ap (λ (n : ℕ). 2 ^ n) (let e : w + 1 - j ≡ 2 + (w - 1 - j) = omega arith in e) ∙ pow-add 2 2 (w - 1 - j) in
        let full : 4 * 2 ^ w ≡ 2 ^ j * 8 * Q =
        sym (pow-add 2 2 w) ∙ ap (λ (n : ℕ). 2 ^ n) (let e : 2 + w ≡ j + 3 + (w - 1 - j) = omega arith in e) ∙ pow-add 2 (j + 3) (w - 1 - j) ∙ rw (pow-add 2 j 3) in
        let r = x / Q in
        let t = x % Q in
        let lt : t < Q = mod-lt x (pow_pos (w - 1 - j)) in
        let is : x ≡ r * Q + t = sym (div-add-mod' x Q) in
        let lr : r < 2 ^ j * 8 = (div-lt_iff_lt-mul (pow_pos (w - 1 - j))).1 (rw full at lx) in
        let e = r - r / 4 % 2 * 4 in
        let m = (8 * x + l) % 8 in
        let em : (8 * x + l) % 8 ≡ l = omega arith in
        let room : (e + 4) * Q + t < 4 * 2 ^ w = rw full (omega (arith, mul-le-mul_right Q (let z : e + 5 ≤ 2 ^ j * 8 = omega arith in z))) in
        let low : e * Q + t ≡ x - x / (4 * Q) % 2 * (4 * Q) = low_x Q r t x lt is in
        let high : (e + 4) * Q + t ≡ x - x / (4 * Q) % 2 * (4 * Q) + 4 * Q = omega arith in
        let suc-j : j + 1 ≡ suc j = omega arith in
        let c1 : 64 * (r / 4 % 8) + 8 * (r % 4) + 32 + l ≡ 64 * (r / 4 % 8) + 8 * (r % 4 + 4) + l = omega arith in
        let T = column_kept next w (b + l) j (r / 4 % 8) (r % 4) in
        let U = column_kept next w (b + l) j (r / 4 % 8) (r % 4 + 4) in
        let A = held next w (b + l) (f l) j (e * Q + t) in
        let B = held next w (b + l) (f l) j ((e + 4) * Q + t) in
        let last : held next w (b + l) (f l) (suc j) x ≡ larger (keep_if T A) (keep_if U B) =
        rw (ep, ← high, ← low, high_x Q r t x lt is, cells_x Q r t x lt is) in
        let written : crossed src masks (2 ^ (w + 2 - j)) (8 * x + l) ≡ larger (keep_if T A) (keep_if U B) =
        rw (eq, run_y Q r t x lt is l ll, rest_y Q r t x lt is l ll, em, place_y Q r t x lt is l ll e, place_y Q r t x lt is l ll (e + 4), c1)
        (larger_same
        (half (e * Q + t) l (r / 4 % 8) (r % 4) (omega arith) ll (omega arith) (omega arith))
        (half ((e + 4) * Q + t) l (r / 4 % 8) (r % 4 + 4) room ll (omega arith) (omega arith))) in
        wrote_at W long (8 * x + l) (omega arith) ∙ written ∙ sym (rw suc-j last);
  }

-- ---- the last two columns
keep_larger : (t : Bool) (v y : ℕ) → larger (keep_if t v) (keep_if t y) ≡ keep_if t (larger v y)
keep_larger true v y = refl
keep_larger false v y = refl

module _ (next : ℕ → ℕ) (w b : ℕ) (s : ℕ → ℕ) where
  -- column w + 1, below row a
  last_column : (a : ℕ) → held next w b s (w + 2) (4 * a)
      ≡ larger (keep_if (column_kept next w b (w + 1) (4 * (a % 4 % 2)) 0) (held next w b s (w + 1) (4 * a)))
      (keep_if (column_kept next w b (w + 1) (4 * (a % 4 % 2)) 4) (held next w b s (w + 1) (4 * a + 1)))
  unfolding held
  last_column a =
      let n : w + 2 ≡ suc (w + 1) = omega arith in
      let e : w + 1 - (w + 1) ≡ 0 = omega arith in
      let c : 4 * a / 2 ^ 0 % 8 ≡ 4 * (a % 4 % 2) = omega arith in
      let d : 4 * (4 * a) / 2 ^ 0 % 4 ≡ 0 = omega arith in
      let l : 4 * a - 4 * a / 2 ^ 0 % 2 * 2 ^ 0 ≡ 4 * a = omega arith in
      rw (n, e, l, c, d)

  -- column w, below row a and one dead cell
  one_column : (a g : ℕ) → g < 2 → held next w b s (w + 1) (4 * a + g)
      ≡ larger (keep_if (column_kept next w b w (2 * (a % 4)) (2 * g)) (held next w b s w (4 * a + g)))
      (keep_if (column_kept next w b w (2 * (a % 4)) (2 * (g + 2))) (held next w b s w (4 * a + g + 2)))
  unfolding held
  one_column a g h =
      let n : w + 1 ≡ suc w = omega arith in
      let e : w + 1 - w ≡ 1 = omega arith in
      let c : (4 * a + g) / 2 ^ 1 % 8 ≡ 2 * (a % 4) = omega arith in
      let d : 4 * (4 * a + g) / 2 ^ 1 % 4 ≡ 2 * g = omega arith in
      let d' : 2 * g + 4 ≡ 2 * (g + 2) = omega arith in
      let l : 4 * a + g - (4 * a + g) / 2 ^ 1 % 2 * 2 ^ 1 ≡ 4 * a + g = omega arith in
      ap (λ (m : ℕ). held next w b s m (4 * a + g)) n ∙ rw (e, l, c, d, d')

module _ (next : ℕ → ℕ) (keep : List ℕ) (K : Keeps next keep) (w b : ℕ) (f : ℕ → ℕ → ℕ) (small : Small f) (src last : List ℕ)
    (H : VectorHolds next w b f w src) (M : (t : ℕ) → t < 128 → get_or last t 0 ≡ last_mask keep w b t) where
  -- one of the four numbers
  quarter : (a l q i m : ℕ) → a < 2 ^ w → l < 8 → q < 4 → i ≡ 8 * (4 * a + q) + l → m ≡ 32 * (a % 4) + 8 * q + l
      → bit_and (get_or src i 0) (get_or last m 0)
      ≡ keep_if (column_kept next w (b + l) (w + 1) (4 * (a % 4 % 2)) (4 * (q % 2)))
      (keep_if (column_kept next w (b + l) w (2 * (a % 4)) (2 * q)) (held next w (b + l) (f l) w (4 * a + q)))
  quarter a l q i m la ll lq ei em =
      let p = column_kept next w (b + l) w (2 * (a % 4)) (2 * q) in
      let u = column_kept next w (b + l) (w + 1) (4 * (a % 4 % 2)) (4 * (q % 2)) in
      let v = held next w (b + l) (f l) w (4 * a + q) in
      let left : get_or src i 0 ≡ v = rw ei (H.at (4 * a + q) l (omega arith) ll) in
      let right : get_or last m 0 ≡ mask_of (p && u) = M m (omega arith) ∙ last_mask_lem next keep K w b (a % 4) q l m (omega arith) lq ll em in
      rw (left, right) (masked (p && u) v (held_most next w (b + l) (f l) 65535 (small l) w (4 * a + q)) ∙ keep_both p u v)

  pub ended_held : (a l : ℕ) → a < 2 ^ w → l < 8 → after_last src last a l ≡ held next w (b + l) (f l) (w + 2) (4 * a)
  unfolding after_last
  ended_held a l la ll =
      let k : ℕ → Bool = λ g. column_kept next w (b + l) (w + 1) (4 * (a % 4 % 2)) g in
      let p : ℕ → Bool = λ q. column_kept next w (b + l) w (2 * (a % 4)) (2 * q) in
      let v : ℕ → ℕ = λ q. held next w (b + l) (f l) w (4 * a + q) in
      let e0 : 4 * a + 0 ≡ 4 * a = omega arith in
      let even : larger (bit_and (get_or src (32 * a + l) 0) (get_or last (32 * (a % 4) + l) 0)) (bit_and (get_or src (32 * a + 16 + l) 0) (get_or last (32 * (a % 4) + 16 + l) 0))
      ≡ keep_if (k 0) (held next w (b + l) (f l) (w + 1) (4 * a)) =
      larger_same
      (quarter a l 0 (32 * a + l) (32 * (a % 4) + l) la ll (omega arith) (omega arith) (omega arith))
      (quarter a l 2 (32 * a + 16 + l) (32 * (a % 4) + 16 + l) la ll (omega arith) (omega arith) (omega arith))
      ∙ keep_larger (k 0) (keep_if (p 0) (v 0)) (keep_if (p 2) (v 2))
      ∙ ap (keep_if (k 0)) (sym (ap (held next w (b + l) (f l) (w + 1)) (sym e0) ∙ one_column next w (b + l) (f l) a 0 (omega arith) ∙ rw e0)) in
      let e1 : 4 * a + 1 + 2 ≡ 4 * a + 3 = omega arith in
      let odd : larger (bit_and (get_or src (32 * a + 8 + l) 0) (get_or last (32 * (a % 4) + 8 + l) 0)) (bit_and (get_or src (32 * a + 24 + l) 0) (get_or last (32 * (a % 4) + 24 + l) 0))
      ≡ keep_if (k 4) (held next w (b + l) (f l) (w + 1) (4 * a + 1)) =
      larger_same
      (quarter a l 1 (32 * a + 8 + l) (32 * (a % 4) + 8 + l) la ll (omega arith) (omega arith) (omega arith))
      (quarter a l 3 (32 * a + 24 + l) (32 * (a % 4) + 24 + l) la ll (omega arith) (omega arith) (omega arith))
      ∙ keep_larger (k 4) (keep_if (p 1) (v 1)) (keep_if (p 3) (v 3))
      ∙ ap (keep_if (k 4)) (sym (one_column next w (b + l) (f l) a 1 (omega arith) ∙ rw e1)) in
      larger_same even odd ∙ sym (last_column next w (b + l) (f l) a)
