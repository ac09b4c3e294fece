-- A board steps to a target exactly when its rows step to the target's, and so is still exactly when they agree: a row's number has the row's cells
-- as its digits.
-- Assumes nothing.
use mathlib.Core.Path.{◌≡◌, refl, ◌∙◌, sym, fun_ext}
use mathlib.Core.Bool.{Bool, true, false, cond, ◌&&◌}
use mathlib.Core.Logic.{◌↔◌}
use mathlib.Core.List.{List}
use Prim.Native.Nat.{ℕ, zero, suc, ◌+◌, ◌*◌, ◌-◌, ◌/◌, ◌%◌, ◌^◌, ◌<◌, ◌≤◌}
use native.Mathlib.Nat.{pow-suc, div-one, zero-div, div-div-eq-div-mul, mul_comm, add-suc, add-zero}
use native.Mathlib.Numerals.{add-one, add-two}
use native.Mathlib.Omega.{arith}
use native.Mathlib.Decide.{dec_lt}
use borrow.Author.Tests.{eqb-true, eq-eqb}
use lib.IntN.{ℤ, pos, negsuc, suc_ℤ, pred_ℤ}
use lib.ListN.{get_or}
use Rattle.board.specs.Boards.{among, Bytes}
use Rattle.board.proofs.Search.{all_of, all_at}
use Rattle.board.proofs.Tests.{among_in}
use Rattle.life.specs.Plane.{Plane, on_plane, nine, around, table_step, StillBy, LeadsToBy}
use Rattle.life.specs.Rows.{row_number, row_of, cell_of, becomes, steps_to, RowsAgree, RowsStepTo}
use Rattle.life.specs.Theorems.{StillByRowsBy, StepsByRowsBy}
use Rattle.life.proofs.OnPlane.{Off, before, nought, past, off_row, state_small}
use Rattle.life.proofs.Far.{leads_of_ring}

-- ---- digits
module _ (cells : List ℕ) (small : (k : ℕ) → get_or cells k 0 ≤ 1) (place : ℕ) where
  -- without its last d digits a row's number is that of its first cells
  pub shorter : (m d : ℕ) → row_number cells place (m + d) / 2 ^ d ≡ row_number cells place m
  unfolding row_number
  shorter m zero = rw (add-zero m) (div-one (row_number cells place m))
  shorter m (suc d) =
      let n = row_number cells place (m + d) in
      let half : (2 * n + get_or cells (place + (m + d)) 0) / 2 ≡ n = omega (arith, small (place + (m + d))) in
      rw (add-suc m d, pow-suc 2 d, mul_comm (2 ^ d) 2, ← (div-div-eq-div-mul (2 * n + get_or cells (place + (m + d)) 0) 2 (2 ^ d)), half)
      (shorter m d)

  -- a digit is the cell
  digit_is : (m d : ℕ) → row_number cells place (suc m + d) / 2 ^ d % 2 ≡ get_or cells (place + m) 0
  unfolding row_number
  digit_is m d = rw (shorter (suc m) d) (omega (arith, small (place + m)))

  -- in column c of w
  pub cell_is : (w c : ℕ) → 0 < c → c ≤ w → row_number cells place w / 2 ^ (w - c) % 2 ≡ get_or cells (place + (c - 1)) 0
  cell_is w c p q = let e : suc (c - 1) + (w - c) ≡ w = omega arith in rw e at (digit_is (c - 1) (w - c))

  -- n cells have n digits
  pub number_lt : (n : ℕ) → row_number cells place n < 2 ^ n
  unfolding row_number
  number_lt zero = omega arith
  number_lt (suc n) = omega (arith, number_lt n, small (place + n), pow-suc 2 n)

-- ---- rows as cells
zero_cell : (w : ℕ) (c : ℤ) → cell_of w 0 c ≡ 0
unfolding cell_of
zero_cell w (pos c) = go (among w c)
  where
    go : (t : Bool) → cond t (0 / 2 ^ (w - c) % 2) 0 ≡ 0
    go true = rw (zero-div (2 ^ (w - c)))
    go false = refl
zero_cell w (negsuc c) = refl

-- a row off the board is row 0
pub off_cells : (w h : ℕ) (cells : List ℕ) {r : ℤ} → Off h r → cell_of w 0 ≡ on_plane w h cells r
off_cells w h cells o = fun_ext λ c. zero_cell w c ∙ sym (off_row w h cells o c)

-- a row's number has the board's cells
pub row_cells : {w h : ℕ} {cells : List ℕ} → Bytes 1 w h cells → (r : ℕ) → cell_of w (row_of w h cells r) ≡ on_plane w h cells (pos r)
unfolding cell_of row_of on_plane
row_cells {w} {h} {cells} b r = fun_ext at
  where
    go : (c : ℕ) (s : Bool) (t : Bool) → among w c ≡ t
        → cond t (cond s (row_number cells ((r - 1) * w) w) 0 / 2 ^ (w - c) % 2) 0 ≡ cond (s && t) (get_or cells ((r - 1) * w + (c - 1)) 0) 0
    go c true true q =
        let l = among_in w c q in
        cell_is cells (state_small b) ((r - 1) * w) w c l.0 l.1
    go c true false q = refl
    go c false true q = rw (zero-div (2 ^ (w - c)))
    go c false false q = refl

    at : (c : ℤ) → cell_of w (row_of w h cells r) c ≡ on_plane w h cells (pos r) c
    at (pos c) = go c (among h r) (among w c) refl
    at (negsuc c) = refl

-- ---- three rows step to a fourth, column by column
pub steps_cells : (next : ℕ → ℕ) (w a b c t : ℕ) {A B C U : ℤ → ℕ} → cell_of w a ≡ A → cell_of w b ≡ B → cell_of w c ≡ C → cell_of w t ≡ U
    → steps_to next w a b c t ≡ true ↔ ((j : ℕ) → j ≤ w + 1 → next (nine A B C (pos j)) ≡ U (pos j))
unfolding steps_to becomes
steps_cells next w a b c t {A} {B} {C} {U} ea eb ec et = (there, back)
  where
    there : steps_to next w a b c t ≡ true → (j : ℕ) → j ≤ w + 1 → next (nine A B C (pos j)) ≡ U (pos j)
    there e j l =
        let h : next (nine (cell_of w a) (cell_of w b) (cell_of w c) (pos j)) ≡ cell_of w t (pos j) =
        eqb-true _ _ (all_at (becomes next w a b c t) (w + 2) e j (omega arith)) in
        rw (ea, eb, ec, et) at h

    back : ((j : ℕ) → j ≤ w + 1 → next (nine A B C (pos j)) ≡ U (pos j)) → steps_to next w a b c t ≡ true
    back f = all_of (becomes next w a b c t) (w + 2) (λ j l. rw (ea, eb, ec, et) (eq-eqb _ _ (f j (omega arith))))

-- ---- the theorem
module _ (next : ℕ → ℕ) {w h : ℕ} {cells target : List ℕ} (b : Bytes 1 w h cells) (t : Bytes 1 w h target) where
  abbrev P : Plane
  P = on_plane w h cells

  abbrev Q : Plane
  Q = on_plane w h target

  -- a row steps to the target's, columns 0 to w + 1
  abbrev StepsRow : ℤ → Type 0
  StepsRow r = (j : ℕ) → j ≤ w + 1 → next (nine (P (pred_ℤ r)) (P r) (P (suc_ℤ r)) (pos j)) ≡ Q r (pos j)

  off : {r : ℤ} → Off h r → cell_of w 0 ≡ P r
  off = off_cells w h cells

  off_target : {r : ℤ} → Off h r → cell_of w 0 ≡ Q r
  off_target = off_cells w h target

  first_row : steps_to next w 0 0 (row_of w h cells 1) 0 ≡ true ↔ StepsRow (pos 0)
  first_row = steps_cells next w 0 0 (row_of w h cells 1) 0 (off (before 0)) (off nought) (row_cells b 1) (off_target nought)

  each_row : (r : ℕ) → steps_to next w (row_of w h cells r) (row_of w h cells (suc r)) (row_of w h cells (suc (suc r))) (row_of w h target (suc r)) ≡ true ↔ StepsRow (pos (suc r))
  each_row r =
      steps_cells next w (row_of w h cells r) (row_of w h cells (suc r)) (row_of w h cells (suc (suc r))) (row_of w h target (suc r)) (row_cells b r)
      (row_cells b (suc r)) (row_cells b (suc (suc r))) (row_cells t (suc r))

  last_row : steps_to next w (row_of w h cells h) 0 0 0 ≡ true ↔ StepsRow (pos (suc h))
  last_row =
      let o : Off h (pos (suc h)) = past (suc h) (omega arith) in
      steps_cells next w (row_of w h cells h) 0 0 0 (row_cells b h) (off o) (off (past (suc (suc h)) (omega arith))) (off_target o)

  rows_of_steps : LeadsToBy next P Q → RowsStepTo next w h cells target
  unfolding LeadsToBy around
  rows_of_steps s =
      record {
        first = first_row.1 (λ j l. s (pos 0) (pos j));
        each = λ r l. rw (add-one r, add-two r) ((each_row r).1 (λ j l. s (pos (suc r)) (pos j)));
        last = last_row.1 (λ j l. s (pos (suc h)) (pos j));
      }

  module _ (quiet : next 0 ≡ 0) where
    steps_of_rows : RowsStepTo next w h cells target → LeadsToBy next P Q
    unfolding around
    steps_of_rows a = leads_of_ring w h cells next quiet target steps
      where
        steps : (r c : ℕ) → r ≤ h + 1 → c ≤ w + 1 → table_step next P (pos r) (pos c) ≡ Q (pos r) (pos c)
        steps zero c p q = first_row.0 a.first c q
        steps (suc r) c p q =
            elim (dec_lt r h) [
              | yes l ↦ (each_row r).0 (rw (add-one r, add-two r) at (a.each r l)) c q
              | no n ↦ let e : r ≡ h = omega arith in rw e (last_row.0 a.last c q)
            ]

pub steps_by_rows : (next : ℕ → ℕ) → next 0 ≡ 0 → StepsByRowsBy next
steps_by_rows next quiet w h cells target b t = (rows_of_steps next b t, steps_of_rows next b t quiet)

-- ---- a board that steps to itself is still
pub agree_steps : {next : ℕ → ℕ} {w h : ℕ} {cells : List ℕ} → RowsAgree next w h cells → RowsStepTo next w h cells cells
agree_steps a = record { first = a.first; each = a.each; last = a.last }

pub steps_agree : {next : ℕ → ℕ} {w h : ℕ} {cells : List ℕ} → RowsStepTo next w h cells cells → RowsAgree next w h cells
steps_agree a = record { first = a.first; each = a.each; last = a.last }

pub still_by_rows : (next : ℕ → ℕ) → next 0 ≡ 0 → StillByRowsBy next
unfolding StillBy LeadsToBy
still_by_rows next quiet w h cells b =
    let j = steps_by_rows next quiet w h cells cells b b in
    (λ s. steps_agree (j.0 s), λ a. j.1 (agree_steps a))
