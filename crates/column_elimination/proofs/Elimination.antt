-- Column elimination finds the greatest number of the rows that agree with a and b.
-- Assumes nothing.
use mathlib.Core.Path.{◌≡◌, refl, ◌∙◌, sym, ap}
use mathlib.Core.Bool.{Bool, true, false, ◌&&◌}
use Prim.Native.Nat.{ℕ, zero, suc, ◌+◌, ◌*◌, ◌-◌, ◌/◌, ◌%◌, ◌^◌, ◌<◌, ◌≤◌}
use native.Mathlib.Nat.{pow-succ', add-zero, zero-mul, add-mul-div_right, mul_comm, mul_assoc, add-mul, one-mul, div-lt_iff_lt-mul, mod-lt}
use native.Mathlib.Omega.{arith}
use lib.Dec.{lit<}
use lib.Pow.{pow_pos, pow-add, pow_mono, shr-shr}
use Rattle.board.specs.Search.{all_below}
use Rattle.life.specs.Rows.{window, becomes, steps_to, agree}
use Rattle.score_table.proofs.Columns.{becomes_is}
use Rattle.column_elimination.specs.Columns.{larger, greatest, keep_if, pattern_kept, column_kept, held, HeldIsGreatest}
use Rattle.column_elimination.proofs.Sizes.{quot}
use Rattle.column_elimination.proofs.Greatest.{larger_most, larger_zero, larger_same, greatest_same, greatest_pairs, greatest_if, greatest_more}

-- ---- tests
all_same : (f g : ℕ → Bool) (n : ℕ) → ((i : ℕ) → i < n → f i ≡ g i) → all_below f n ≡ all_below g n
unfolding all_below
all_same f g zero h = refl
all_same f g (suc n) h = rw (all_same f g n (λ i l. h i (omega arith)), h n (omega arith))

-- two tests, the second first
pub keep_both : (p q : Bool) (v : ℕ) → keep_if (p && q) v ≡ keep_if q (keep_if p v)
keep_both true true v = refl
keep_both true false v = refl
keep_both false true v = refl
keep_both false false v = refl

keep_none : (t : Bool) → keep_if t 0 ≡ 0
keep_none true = refl
keep_none false = refl

pub keep_most : (t : Bool) (v m : ℕ) → v ≤ m → keep_if t v ≤ m
keep_most true v m h = h
keep_most false v m h = omega arith

keep_same : {t u : Bool} {v y : ℕ} → t ≡ u → v ≡ y → keep_if t v ≡ keep_if u y
keep_same {t} {u} {v} {y} p q = rw (p, q)

-- what is held is at most the greatest number at the start
pub held_most : (next : ℕ → ℕ) (w b : ℕ) (s : ℕ → ℕ) (m : ℕ) → ((x : ℕ) → s x ≤ m) → (j x : ℕ) → held next w b s j x ≤ m
unfolding held
held_most next w b s m h zero x = h x
held_most next w b s m h (suc j) x =
    let P = 2 ^ (w + 1 - j) in
    let l = x - x / P % 2 * P in
    let t = column_kept next w b j (x / P % 8) (4 * x / P % 4) in
    let u = column_kept next w b j (x / P % 8) (4 * x / P % 4 + 4) in
    larger_most (keep_if t (held next w b s j l)) (keep_if u (held next w b s j (l + P))) m
    (keep_most t (held next w b s j l) m (held_most next w b s m h j l))
    (keep_most u (held next w b s j (l + P)) m (held_most next w b s m h j (l + P)))

-- 4 (g + y 2 z) is 4 g and 8 y times z
eight : (g y z : ℕ) → 4 * (g + y * (z * 2)) ≡ 4 * g + 8 * y * z
eight g y z = rw (← mul_assoc y z 2, mul_assoc 8 y z) (omega arith)

-- row a and two dead cells read z
module _ (next : ℕ → ℕ) (w b z : ℕ) (s : ℕ → ℕ) where
  -- column j keeps its state over row g
  abbrev kept : ℕ → ℕ → Bool
  kept j g = column_kept next w b j (z / 2 ^ (w + 1 - j) % 8) (4 * g / 2 ^ (w + 1 - j) % 8)

  -- after columns 0 to j - 1: the greatest number of the rows whose cells j - 1 to w read g
  unfoldable dropped : ℕ → ℕ → ℕ
  dropped zero g = s g
  dropped (suc j) g = larger (keep_if (kept j g) (dropped j g)) (keep_if (kept j (g + 2 ^ (w + 1 - j))) (dropped j (g + 2 ^ (w + 1 - j))))

  -- the window at column j reads cells j - 1 to w only
  kept_low : (j g y : ℕ) → j ≤ w + 1 → kept j (g + y * 2 ^ (w + 2 - j)) ≡ kept j g
  kept_low j g y h =
      let k = w + 1 - j in
      let e : w + 2 - j ≡ k + 1 = omega arith in
      let p : 4 * (g + y * 2 ^ (k + 1)) ≡ 4 * g + 8 * y * 2 ^ k = rw (pow-add 2 k 1) (eight g y (2 ^ k)) in
      let q : 4 * (g + y * 2 ^ (w + 2 - j)) / 2 ^ k % 8 ≡ 4 * g / 2 ^ k % 8 =
      rw (e, p, add-mul-div_right (4 * g) (8 * y) {z = 2 ^ k} (pow_pos k)) (omega arith) in
      rw q

  -- row c's number, where it passes the columns below j
  unfoldable passed : ℕ → ℕ → ℕ
  passed j c = keep_if (all_below (λ i. kept i c) j) (s c)

  passed_more : (j g y : ℕ) → j ≤ w + 1 → passed (suc j) (g + y * 2 ^ (w + 2 - j)) ≡ keep_if (kept j g) (passed j (g + y * 2 ^ (w + 2 - j)))
  unfolding passed all_below
  passed_more j g y h =
      let c = g + y * 2 ^ (w + 2 - j) in
      keep_both (all_below (λ i. kept i c) j) (kept j c) (s c) ∙ ap (λ (t : Bool). keep_if t (keep_if (all_below (λ i. kept i c) j) (s c))) (kept_low j g y h)

  -- what is held after j columns is the greatest over the cells that were dropped
  dropped_top : (j : ℕ) → j ≤ w + 2 → (g : ℕ) → dropped j g ≡ greatest (λ x. passed j (g + x * 2 ^ (w + 2 - j))) (2 ^ j)
  unfolding dropped greatest passed all_below
  dropped_top zero h g =
      let e : g + 0 * 2 ^ (w + 2 - 0) ≡ g = rw (zero-mul (2 ^ (w + 2 - 0))) (add-zero g) in
      rw e (sym (larger_zero (s g)))
  dropped_top (suc j) h g =
      let k = w + 1 - j in
      let e : w + 2 - suc j ≡ k = omega arith in
      let k1 : w + 2 - j ≡ suc k = omega arith in
      let l : j ≤ w + 1 = omega arith in
      let f : (y : ℕ) → 2 * y * 2 ^ k ≡ y * 2 ^ (w + 2 - j) = λ y. rw (k1, pow-succ' 2 k, mul_comm 2 y) (mul_assoc y 2 (2 ^ k)) in
      let even : (y : ℕ) → g + 2 * y * 2 ^ k ≡ g + y * 2 ^ (w + 2 - j) = λ y. rw (f y) in
      let odd : (y : ℕ) → g + (2 * y + 1) * 2 ^ k ≡ g + 2 ^ k + y * 2 ^ (w + 2 - j) =
      λ y. rw (add-mul (2 * y) 1 (2 ^ k), one-mul (2 ^ k), f y) (omega arith) in
      let begin : greatest (λ x. passed (suc j) (g + x * 2 ^ (w + 2 - suc j))) (2 ^ suc j) ≡ greatest (λ x. passed (suc j) (g + x * 2 ^ k)) (2 * 2 ^ j) =
      ap (λ (q : ℕ). greatest (λ x. passed (suc j) (g + x * 2 ^ q)) (2 ^ suc j)) e ∙ ap (greatest (λ x. passed (suc j) (g + x * 2 ^ k))) (pow-succ' 2 j) in
      let es = greatest_same (λ y. passed (suc j) (g + 2 * y * 2 ^ k)) (λ y. keep_if (kept j g) (passed j (g + y * 2 ^ (w + 2 - j)))) (2 ^ j)
      (λ y _. ap (passed (suc j)) (even y) ∙ passed_more j g y l) in
      let os = greatest_same (λ y. passed (suc j) (g + (2 * y + 1) * 2 ^ k)) (λ y. keep_if (kept j (g + 2 ^ k)) (passed j (g + 2 ^ k + y * 2 ^ (w + 2 - j)))) (2 ^ j)
      (λ y _. ap (passed (suc j)) (odd y) ∙ passed_more j (g + 2 ^ k) y l) in
      sym
      (begin ∙ greatest_pairs (λ x. passed (suc j) (g + x * 2 ^ k)) (2 ^ j)
      ∙ larger_same
      (es ∙ greatest_if (kept j g) (λ y. passed j (g + y * 2 ^ (w + 2 - j))) (2 ^ j) ∙ ap (keep_if (kept j g)) (sym (dropped_top j (omega arith) g)))
      (os ∙ greatest_if (kept j (g + 2 ^ k)) (λ y. passed j (g + 2 ^ k + y * 2 ^ (w + 2 - j))) (2 ^ j)
      ∙ ap (keep_if (kept j (g + 2 ^ k))) (sym (dropped_top j (omega arith) (g + 2 ^ k)))))

  -- after the last column
  dropped_all : ((c : ℕ) → 2 ^ w ≤ c → s c ≡ 0) → dropped (w + 2) 0 ≡ greatest (λ c. keep_if (all_below (λ j. kept j c) (w + 2)) (s c)) (2 ^ w)
  unfolding passed
  dropped_all none =
      let e : w + 2 - (w + 2) ≡ 0 = omega arith in
      let m : 2 ^ w ≤ 2 ^ (w + 2) = pow_mono (omega arith) in
      let d : 2 ^ (w + 2) ≡ 2 ^ w + (2 ^ (w + 2) - 2 ^ w) = omega arith in
      let one : (x : ℕ) → 0 + x * 2 ^ 0 ≡ x = λ x. omega arith in
      dropped_top (w + 2) (omega arith) 0
      ∙ greatest_same (λ x. passed (w + 2) (0 + x * 2 ^ (w + 2 - (w + 2)))) (passed (w + 2)) (2 ^ (w + 2)) (λ x _. rw (e, one x))
      ∙ rw d (greatest_more (passed (w + 2)) (2 ^ w) (2 ^ (w + 2) - 2 ^ w) (λ c h. rw (none c h) (keep_none (all_below (λ j. kept j c) (w + 2)))))

  -- ---- what the code holds, of which cells 1 to j of a are the first
  -- the place where they and g stand
  abbrev placed : ℕ → ℕ → ℕ
  placed j g = z / 2 ^ (w + 2 - j) * 2 ^ (w + 2 - j) + g

  -- one column: P = 2 ^ (w + 1 - j)
  module _ (P q g x : ℕ) (pos : 0 < P) (low : g < P) (is : x ≡ q * P + g) where
    high_is : x / P ≡ q
    high_is = quot P q g x low is

    four_g : 4 * g / P < 4
    four_g = (div-lt_iff_lt-mul pos).1 (omega arith)

    cells_is : 4 * x / P % 4 ≡ 4 * g / P % 8
    cells_is =
        let e : 4 * x ≡ 4 * g + 4 * q * P = rw (is, mul_assoc 4 q P) (omega arith) in
        rw (e, add-mul-div_right (4 * g) (4 * q) {z = P} pos) (omega (arith, four_g))

    cells_high : 4 * x / P % 4 + 4 ≡ 4 * (g + P) / P % 8
    cells_high =
        let e : 4 * (g + P) ≡ 4 * g + 4 * P = omega arith in
        rw (cells_is, e, add-mul-div_right (4 * g) 4 {z = P} pos) (omega (arith, four_g))

    low_is : x - x / P % 2 * P ≡ q / 2 * (2 * P) + g
    low_is =
        let u = q / 2 in
        let e : q * P ≡ u * (2 * P) + q % 2 * P =
        ap (λ (n : ℕ). n * P) (let f : q ≡ u * 2 + q % 2 = omega arith in f) ∙ add-mul (u * 2) (q % 2) P ∙ rw (mul_assoc u 2 P) in
        rw high_is (omega arith)

  module _ (short : z < 2 ^ (w + 2)) where
    held_dropped : (j : ℕ) → j ≤ w + 2 → (g : ℕ) → g < 2 ^ (w + 2 - j) → held next w b s j (placed j g) ≡ dropped j g
    unfolding held dropped
    held_dropped zero h g l =
        let n : w + 2 - 0 ≡ w + 2 = omega arith in
        let e : z / 2 ^ (w + 2 - 0) ≡ 0 = rw n (native.Mathlib.Nat.div-eq_of_lt short) in
        let f : placed 0 g ≡ g = rw (e, zero-mul (2 ^ (w + 2 - 0))) (omega arith) in
        ap s f
    held_dropped (suc j) h g l =
        let k = w + 1 - j in
        let P = 2 ^ k in
        let x = placed (suc j) g in
        let pos : 0 < P = pow_pos k in
        let e : w + 2 - suc j ≡ k = omega arith in
        let lp : g < P = rw e at l in
        let xe : x ≡ z / P * P + g = rw e in
        let k1 : w + 2 - j ≡ k + 1 = omega arith in
        let two : 2 ^ (k + 1) ≡ 2 * P = pow-add 2 k 1 ∙ mul_comm P 2 in
        let down : z / P / 2 ≡ z / 2 ^ (k + 1) = shr-shr z k 1 in
        let lo : x - x / P % 2 * P ≡ placed j g = low_is P (z / P) g x pos lp xe ∙ rw (k1, two, down, two) in
        let hi : x - x / P % 2 * P + P ≡ placed j (g + P) = rw lo (omega arith) in
        let room : g + P < 2 ^ (w + 2 - j) = rw (k1, two) (omega arith) in
        let room₀ : g < 2 ^ (w + 2 - j) = omega arith in
        let top = high_is P (z / P) g x pos lp xe in
        let t : column_kept next w b j (x / P % 8) (4 * x / P % 4) ≡ kept j g = rw (top, cells_is P (z / P) g x pos lp xe) in
        let u : column_kept next w b j (x / P % 8) (4 * x / P % 4 + 4) ≡ kept j (g + P) = rw (top, cells_high P (z / P) g x pos lp xe) in
        larger_same
        (keep_same t
        (ap (held next w b s j) lo ∙ held_dropped j (omega arith) g room₀))
        (keep_same u
        (ap (held next w b s j) hi ∙ held_dropped j (omega arith) (g + P) room))

    held_last : ((c : ℕ) → 2 ^ w ≤ c → s c ≡ 0) → held next w b s (w + 2) z ≡ greatest (λ c. keep_if (all_below (λ j. kept j c) (w + 2)) (s c)) (2 ^ w)
    held_last none =
        let e : w + 2 - (w + 2) ≡ 0 = omega arith in
        let p : placed (w + 2) 0 ≡ z = rw e (omega arith) in
        ap (held next w b s (w + 2)) (sym p) ∙ held_dropped (w + 2) (omega arith) 0 (pow_pos (w + 2 - (w + 2))) ∙ dropped_all none

-- the middle digit of a pattern is that of its middle window
centre : (x y z : ℕ) → z < 8 → (64 * x + 8 * y + z) / 16 % 2 ≡ y / 2 % 2
centre x y z h = omega arith

kept_becomes : (next : ℕ → ℕ) (w a b c j : ℕ) → a < 2 ^ w → b < 2 ^ w → c < 2 ^ w → j ≤ w + 1
    → column_kept next w b j (window w a j) (window w c j) ≡ becomes next w a b c b j
unfolding pattern_kept
kept_becomes next w a b c j la lb lc lj =
    rw (centre (window w a j) (window w b j) (window w c j) (mod-lt (4 * c / 2 ^ (w + 1 - j)) (lit< tt))) (sym (becomes_is next w a b c b j la lb lc lb lj))

pub held_is_greatest : HeldIsGreatest
unfolding steps_to
held_is_greatest next w a b s la lb none =
    let short : 4 * a < 2 ^ (w + 2) = rw (pow-add 2 w 2) (omega arith) in
    held_last next w b (4 * a) s short none
    ∙ greatest_same (λ c. keep_if (all_below (λ j. kept next w b (4 * a) s j c) (w + 2)) (s c)) (λ c. keep_if (agree next w a b c) (s c)) (2 ^ w)
    (λ c lc.
    ap (λ (t : Bool). keep_if t (s c))
    (all_same (λ j. kept next w b (4 * a) s j c) (becomes next w a b c b) (w + 2) (λ j lj. kept_becomes next w a b c j la lb lc (omega arith))))
