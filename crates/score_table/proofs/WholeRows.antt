-- Laws of rows that are held as their left halves: a whole row's cells and its leading digits, the loop that forms its number, and what holds of the
-- row that a number stands for, a half or not.
-- Assumes nothing.
use mathlib.Core.Path.{◌≡◌, ◌∙◌, sym, ap, ap₂}
use mathlib.Core.Bool.{Bool, true, false, cond}
use mathlib.Core.List.{List}
use Prim.Native.Nat.{ℕ, suc, ◌+◌, ◌*◌, ◌-◌, ◌/◌, ◌%◌, ◌^◌, ◌<◌, ◌≤◌}
use native.Mathlib.Nat.{div-one}
use native.Mathlib.Omega.{arith}
use native.Mathlib.Decide.{dec_lt}
use lib.ListN.{get_or, get_or-eq_default}
use Rattle.board.specs.Lists.{listed}
use Rattle.board.proofs.Lists.{length_listed, get_d_listed}
use Rattle.life.specs.Rows.{row_number, digit_at, digit_in}
use Rattle.life.proofs.Rows.{shorter, cell_is, number_lt}
use Rattle.board_rows.specs.Rows.{row_cell}
use Rattle.board_rows.proofs.Writing.{cell_left, cell_right, cell_small, digits_read}
use Rattle.board_rows.proofs.Theorems.{row_reflects}
use Rattle.score_table.specs.Rows.{whole_row, RowsWhole}
use Rattle.score_table.specs.declared.Want.{Want}

module _ (w c : ℕ) where
  abbrev cells : List ℕ
  cells = listed (row_cell (w / 2) c) w

  cell_at : (k : ℕ) → k < w → get_or cells k 0 ≡ row_cell (w / 2) c k
  cell_at k l = get_d_listed (row_cell (w / 2) c) w k l

  small : (k : ℕ) → get_or cells k 0 ≤ 1
  small k =
      elim (dec_lt k w) [
        | yes l ↦ rw (cell_at k l) (cell_small (w / 2) c k)
        | no l ↦
            let e : get_or cells k 0 ≡ 0 = get_or-eq_default cells 0 (omega (arith, length_listed (row_cell (w / 2) c) w)) in
            omega arith
      ]

  pub whole_lt : whole_row w c < 2 ^ w
  unfolding whole_row
  whole_lt = number_lt cells small 0 w

  pub whole_cell : (k : ℕ) → k < w → digit_in w (whole_row w c) (k + 1) ≡ row_cell (w / 2) c k
  unfolding whole_row
  whole_cell k l =
      let e : 0 + (k + 1 - 1) ≡ k = omega arith in
      cell_is cells small 0 w (k + 1) (omega arith) (omega arith) ∙ ap (λ (p : ℕ). get_or cells p 0) e ∙ cell_at k l

  -- the number of its first m cells
  abbrev pub first : ℕ → ℕ
  first m = row_number cells 0 m

  pub first_lt : (m : ℕ) → first m < 2 ^ m
  first_lt m = number_lt cells small 0 m

  -- each cell of the right half is the half's digit
  pub first_more : (i : ℕ) → w / 2 + i < w → first (w / 2 + (i + 1)) ≡ 2 * first (w / 2 + i) + digit_at c i
  unfolding row_number
  first_more i l =
      let e : w / 2 + (i + 1) ≡ suc (w / 2 + i) = omega arith in
      let d : w / 2 + i - w / 2 ≡ i = omega arith in
      let z : 0 + (w / 2 + i) ≡ w / 2 + i = omega arith in
      let g : get_or cells (0 + (w / 2 + i)) 0 ≡ digit_at c i = ap (λ (p : ℕ). get_or cells p 0) z ∙ cell_at (w / 2 + i) l ∙ cell_right (w / 2) c (w / 2 + i) (omega arith) ∙ ap (digit_at c) d in
      ap first e ∙ ap (λ (x : ℕ). 2 * first (w / 2 + i) + x) g

  pub first_all : w % 2 ≡ 0 → first (w / 2 + w / 2) ≡ whole_row w c
  unfolding whole_row
  first_all even = ap first (omega arith)

  module _ (few : c < 2 ^ (w / 2)) where
    -- the left half reads as its number, and so the leading digits are the half's
    pub first_half : first (w / 2) ≡ c
    first_half = digits_read (w / 2) c few cells 0 (λ k l. let z : 0 + k ≡ k = omega arith in ap (λ (p : ℕ). get_or cells p 0) z ∙ cell_at k (omega arith) ∙ cell_left (w / 2) c k l)

    pub whole_leading : (i : ℕ) → i ≤ w / 2 → whole_row w c / 2 ^ (w - i) ≡ c / 2 ^ (w / 2 - i)
    unfolding whole_row
    whole_leading i l =
        let p : i + (w - i) ≡ w = omega arith in
        let q : i + (w / 2 - i) ≡ w / 2 = omega arith in
        rw p at (shorter cells small 0 i (w - i)) ∙ sym (rw (q, first_half) at (shorter cells small 0 i (w / 2 - i)))

pub rows_whole : RowsWhole
rows_whole w c even few = record {
  row = whole_lt w c;
  cell = whole_cell w c;
  left =
      let a : w - w / 2 ≡ w / 2 = omega arith in
      let b : w / 2 - w / 2 ≡ 0 = omega arith in
      rw (a, b, div-one c) at (whole_leading w c few (w / 2) (omega arith));
  reflected = λ k l.
      let a : w - k ≡ w - (k + 1) + 1 = omega arith in
      let b : 2 * (w / 2) ≡ w = omega arith in
      rw a (whole_cell w c (w - (k + 1)) (omega arith) ∙ rw b at (row_reflects (w / 2) c k (omega arith)) ∙ sym (whole_cell w c k l));
}

-- ---- the row that a number stands for
pub row_lt : (halves : Bool) (w c : ℕ) → c < 2 ^ cond halves (w / 2) w → cond halves (whole_row w c) c < 2 ^ w
row_lt true w c l = whole_lt w c
row_lt false w c l = l

-- numbers with the same digits in columns 1 to j + 1 stand for rows with the same cells there
pub rows_same : (halves : Bool) (w x y j : ℕ) → x < 2 ^ cond halves (w / 2) w → y < 2 ^ cond halves (w / 2) w
    → x / 2 ^ (cond halves (w / 2) w - (j + 1)) ≡ y / 2 ^ (cond halves (w / 2) w - (j + 1))
    → cond halves (whole_row w x) x / 2 ^ (w - (j + 1)) ≡ cond halves (whole_row w y) y / 2 ^ (w - (j + 1))
rows_same true w x y j lx ly e =
    elim (dec_lt j (w / 2)) [
      | yes h ↦ whole_leading w x lx (j + 1) (omega arith) ∙ e ∙ sym (whole_leading w y ly (j + 1) (omega arith))
      | no h ↦
          let k : w / 2 - (j + 1) ≡ 0 = omega arith in
          let s : x ≡ y = rw (k, div-one x, div-one y) at e in
          rw s
    ]
rows_same false w x y j lx ly e = e

-- a want by which a row's cells are its number's digits and rows stay as they are is the one that says so
abbrev pub plain : Want → Want
plain want = record { least = want.least; greater_first = want.greater_first; limit = want.limit; halves = false; predecessor = false }

pub plain_is : (want : Want) → want.halves ≡ false → want.predecessor ≡ false → plain want ≡ want
plain_is want e f =
    ap₂ (λ (b t : Bool). record { least = want.least; greater_first = want.greater_first; limit = want.limit; halves = b; predecessor = t }) (sym e) (sym f)
