-- Laws of a column of three rows: what the code's pattern says, and that rows with the same cells up to a column fail there together.
-- Assumes nothing.
use mathlib.Core.Path.{◌≡◌, ◌∙◌, sym}
use mathlib.Core.Bool.{Bool, true, false, cond}
use Prim.Native.Nat.{ℕ, ◌+◌, ◌*◌, ◌-◌, ◌/◌, ◌%◌, ◌^◌, ◌<◌, ◌≤◌}
use native.Mathlib.Nat.{div-one, mul-div-mul_left, mod-lt}
use native.Mathlib.Omega.{arith}
use native.Mathlib.Decide.{dec_lt}
use lib.Dec.{eqb, lit<}
use lib.IntN.{ℤ, pos, negsuc, pred_ℤ, suc_ℤ}
use lib.Pow.{pow-add}
use Rattle.board.specs.Boards.{among}
use Rattle.life.specs.Plane.{three}
use Rattle.life.specs.Rows.{cell_of, digit_in, window, becomes}
use Rattle.life.proofs.Windows.{window_right}
use Rattle.score_table.specs.Inner.{column_of, passes}

-- a cell is 0 or 1
pub cell_small : (w row : ℕ) (c : ℤ) → cell_of w row c ≤ 1
unfolding cell_of
cell_small w row (pos c) = go (among w c)
  where
    go : (t : Bool) → cond t (digit_in w row c) 0 ≤ 1
    go true = omega arith
    go false = omega arith
cell_small w row (negsuc c) = omega arith

-- the middle digit of three
middle : (x y z : ℕ) → x ≤ 1 → y ≤ 1 → z ≤ 1 → (4 * x + 2 * y + z) / 2 % 2 ≡ y
middle x y z p q r = omega arith

-- the pattern by windows is the pattern by cells, and the middle digit of a window is its cell
pub becomes_is : (next : ℕ → ℕ) (w a b c t j : ℕ) → a < 2 ^ w → b < 2 ^ w → c < 2 ^ w → t < 2 ^ w → j ≤ w + 1
    → becomes next w a b c t j ≡ eqb (next (64 * window w a j + 8 * window w b j + window w c j)) (window w t j / 2 % 2)
unfolding becomes
becomes_is next w a b c t j la lb lc lt lj =
    let m : three (cell_of w t) (pos j) / 2 % 2 ≡ cell_of w t (pos j) =
    middle (cell_of w t (pred_ℤ (pos j))) (cell_of w t (pos j)) (cell_of w t (suc_ℤ (pos j))) (cell_small w t (pred_ℤ (pos j))) (cell_small w t (pos j))
    (cell_small w t (suc_ℤ (pos j))) in
    rw (window_right w a j la lj, window_right w b j lb lj, window_right w c j lc lj, window_right w t j lt lj, m)

-- rows with the same cells in columns 1 to j + 1 have the same window at j
window_same : (w x y j : ℕ) → x / 2 ^ (w - (j + 1)) ≡ y / 2 ^ (w - (j + 1)) → window w x j ≡ window w y j
window_same w x y j e =
    elim (dec_lt j w) [
      | yes h ↦
          let k : w + 1 - j ≡ 2 + (w - (j + 1)) = omega arith in
          rw (
            k,
            pow-add 2 2 (w - (j + 1)),
            mul-div-mul_left {m = 4} x (2 ^ (w - (j + 1))) (omega arith),
            mul-div-mul_left {m = 4} y (2 ^ (w - (j + 1))) (omega arith),
            e,
          )
      | no h ↦
          let k : w - (j + 1) ≡ 0 = omega arith in
          let s : x ≡ y = rw (k, div-one x, div-one y) at e in
          rw s
    ]

-- and so below them the middle cell becomes the same there
pub becomes_same : (next : ℕ → ℕ) (w a b x y t j : ℕ) → a < 2 ^ w → b < 2 ^ w → x < 2 ^ w → y < 2 ^ w → t < 2 ^ w → j ≤ w + 1
    → x / 2 ^ (w - (j + 1)) ≡ y / 2 ^ (w - (j + 1)) → becomes next w a b x t j ≡ becomes next w a b y t j
becomes_same next w a b x y t j la lb lx ly lt lj e =
    becomes_is next w a b x t j la lb lx lt lj ∙ rw (window_same w x y j e) (sym (becomes_is next w a b y t j la lb ly lt lj))

-- ---- a column's number, apart from the row below
window_lt : (w row j : ℕ) → window w row j < 8
window_lt w row j = mod-lt (4 * row / 2 ^ (w + 1 - j)) (lit< tt)

pub column_lt : (w a b t j : ℕ) → column_of w a b t j < 1024
column_lt w a b t j = omega (arith, window_lt w a j, window_lt w b j, window_lt w t j)

-- the nine digits, and the one before them
split : (d x y z : ℕ) → d < 2 → x < 8 → y < 8 → z < 8
    → ((512 * d + 64 * x + 8 * y + z) % 512 ≡ 64 * x + 8 * y + z) × ((512 * d + 64 * x + 8 * y + z) / 512 ≡ d)
split d x y z p q r s = (omega arith, omega arith)

-- its test is that of the cell
pub passes_is : (next : ℕ → ℕ) (w a b c t j : ℕ) → a < 2 ^ w → b < 2 ^ w → c < 2 ^ w → t < 2 ^ w → j ≤ w + 1
    → passes next w (column_of w a b t j) c j ≡ becomes next w a b c t j
passes_is next w a b c t j la lb lc lt lj =
    let e = split (window w t j / 2 % 2) (window w a j) (window w b j) (window w c j) (mod-lt (window w t j / 2) (lit< tt)) (window_lt w a j) (window_lt w b j) (window_lt w c j) in
    rw (e.0, e.1) (sym (becomes_is next w a b c t j la lb lc lt lj))

-- the same of a column's number that was computed, for columns 0 to w + 1
pub passes_by : (next : ℕ → ℕ) (w a b c t j : ℕ) {column : ℕ} → a < 2 ^ w → b < 2 ^ w → c < 2 ^ w → t < 2 ^ w → j < w + 2 → column ≡ column_of w a b t j
    → passes next w column c j ≡ becomes next w a b c t j
passes_by next w a b c t j la lb lc lt lj e = rw e (passes_is next w a b c t j la lb lc lt (omega arith))
