-- Laws of a row that is written into a board: a loop's turns, that nothing else changes, and that the row reads back as its number.
-- Assumes nothing.
use mathlib.Core.Path.{◌≡◌, refl, sym, ◌∙◌, ap, ap₂}
use mathlib.Core.Bool.{Bool, true, false, cond}
use mathlib.Core.List.{List, ◌++◌}
use mathlib.Core.Logic.{⊎_elim}
use Prim.Native.Nat.{ℕ, zero, suc, ◌+◌, ◌*◌, ◌-◌, ◌/◌, ◌^◌, ◌<◌, ◌≤◌}
use native.Mathlib.Nat.{not-suc-le-zero, div-div-eq-div-mul, pow-suc, div-eq_of_lt, div-one, div-lt_iff_lt-mul}
use native.Mathlib.Numerals.{add-one}
use native.Mathlib.Omega.{arith}
use native.Mathlib.Decide.{ℕ_discrete}
use borrow.Author.Tests.{lt-ltb, le-ltb, le-leb, lt-leb}
use lib.Dec.{ltb, leb}
use lib.Pow.{pow_mono}
use lib.ListN.{length, get_or, set, take, drop, length-set, length-drop, take-append-drop}
use lib.Seq.{get_or-set_same, get_or-set_other, length-take-le}
use borrow.Rule.Slice.PartMut.{put_mid}
use Rattle.std.proofs.lemmas.List.{set-append_right}
use Rattle.board.specs.Lists.{listed}
use Rattle.board.proofs.Lists.{listed_more}
use Rattle.std.proofs.lemmas.Bool.{cases_lt}
use Rattle.life.specs.Rows.{row_number, digit_at}
use Rattle.board_rows.specs.Rows.{row_cell, written, put_row, read_row}
use Rattle.board_rows.specs.Calls.{row_writes}

module _ (cells : ℕ → ℕ) (board : List ℕ) (at : ℕ) where
  pub written_none : written cells board at 0 ≡ board
  unfolding written
  written_none = refl

  pub written_more : (m : ℕ) → written cells board at (m + 1) ≡ set (written cells board at m) (at + m) (cells m)
  unfolding written
  written_more m = ap (written cells board at) (add-one m)

  pub written_length : (m : ℕ) → length (written cells board at m) ≡ length board
  unfolding written
  written_length zero = refl
  written_length (suc m) = length-set (written cells board at m) (at + m) (cells m) ∙ written_length m

  -- no byte before the cells changes, and none after them
  pub written_before : (m i : ℕ) → i < at → get_or (written cells board at m) i 0 ≡ get_or board i 0
  unfolding written
  written_before zero i l = refl
  written_before (suc m) i l = get_or-set_other (written cells board at m) (at + m) i (cells m) 0 (omega arith) ∙ written_before m i l

  pub written_after : (m i : ℕ) → at + m ≤ i → get_or (written cells board at m) i 0 ≡ get_or board i 0
  unfolding written
  written_after zero i l = refl
  written_after (suc m) i l = get_or-set_other (written cells board at m) (at + m) i (cells m) 0 (omega arith) ∙ written_after m i (omega arith)

  -- each cell is the row's
  pub written_cell : (m k : ℕ) → k < m → at + m ≤ length board → get_or (written cells board at m) (at + k) 0 ≡ cells k
  unfolding written
  written_cell zero k l f = absurd (not-suc-le-zero l)
  written_cell (suc m) k l f =
      elim (ℕ_discrete k m) [
        | yes e ↦
            let i : at + m < length (written cells board at m) = rw (written_length m) (omega arith) in
            rw e (get_or-set_same (written cells board at m) (at + m) (cells m) 0 i)
        | no ne ↦ get_or-set_other (written cells board at m) (at + m) (at + k) (cells m) 0 (omega arith) ∙ written_cell m k (omega arith) (omega arith)
      ]

  -- they stand in the place of as many bytes
  pub written_part : (m : ℕ) → at + m ≤ length board → put_mid at m board (listed cells m) ≡ written cells board at m
  unfolding written listed
  written_part zero l = take-append-drop at board
  written_part (suc m) l =
      let part = drop at board in
      let before : length (take at board) ≡ at = length-take-le at board (omega arith) in
      let more : set (listed cells m ++ drop m part) m (cells m) ≡ listed cells (suc m) ++ drop (suc m) part =
      rw add-one at (listed_more cells part m (omega (arith, length-drop at board))) in
      let e : at + m - at ≡ m = omega arith in
      rw (
        ← (written_part m (omega arith)),
        set-append_right (take at board) (listed cells m ++ drop m part) at (at + m) (cells m) before (omega arith),
        e,
        more,
      )

-- ---- a row's number
-- the first cells are the digits from the left
pub cell_left : (bits n k : ℕ) → k < bits → row_cell bits n k ≡ digit_at n (bits - (k + 1))
cell_left bits n k l = rw (lt-ltb k bits l)

-- and those past them their reflection
pub cell_right : (bits n k : ℕ) → bits ≤ k → row_cell bits n k ≡ digit_at n (k - bits)
cell_right bits n k l = rw (le-ltb k bits l)

pub cell_small : (bits n k : ℕ) → row_cell bits n k ≤ 1
cell_small bits n k = go (ltb k bits)
  where
    go : (b : Bool) → cond b (digit_at n (bits - (k + 1))) (digit_at n (k - bits)) ≤ 1
    go true = omega arith
    go false = omega arith

-- equal cells read as equal numbers
pub same_number : (cells others : List ℕ) (at n : ℕ) → ((k : ℕ) → k < n → get_or cells (at + k) 0 ≡ get_or others (at + k) 0)
    → row_number cells at n ≡ row_number others at n
unfolding row_number
same_number cells others at zero e = refl
same_number cells others at (suc n) e =
    ap₂ (λ (x y : ℕ). 2 * x + y) (same_number cells others at n (λ k l. e k (omega arith))) (e n (omega arith))

-- bytes that are a number's digits read as that number
module _ (bits n : ℕ) (small : n < 2 ^ bits) (board : List ℕ) (at : ℕ) (digits : (k : ℕ) → k < bits → get_or board (at + k) 0 ≡ digit_at n (bits - (k + 1))) where
  first_digits : (m : ℕ) → m ≤ bits → row_number board at m ≡ n / 2 ^ (bits - m)
  unfolding row_number
  first_digits zero l = let e : bits - 0 ≡ bits = omega arith in rw e (sym (div-eq_of_lt small))
  first_digits (suc m) l =
      let i = bits - (m + 1) in
      let e : bits - m ≡ suc i = omega arith in
      let e' : bits - suc m ≡ i = omega arith in
      let half : n / 2 ^ (bits - m) ≡ n / 2 ^ i / 2 = rw (e, pow-suc 2 i) (sym (div-div-eq-div-mul n (2 ^ i) 2)) in
      rw (first_digits m (omega arith), half, digits m (omega arith), e') (omega arith)

  pub digits_read : row_number board at bits ≡ n
  digits_read = let e : bits - bits ≡ 0 = omega arith in rw (first_digits bits (omega arith), e) (div-one n)

-- the row that was written reads back as its number
pub reads_back : (bits w r n : ℕ) (board : List ℕ) → bits ≤ w → n < 2 ^ bits → suc r * w ≤ length board → read_row bits w r (put_row bits w r n board) ≡ n
reads_back bits w r n board l small room =
    digits_read bits n small (put_row bits w r n board) (r * w)
    (λ k q. written_cell (row_cell bits n) board (r * w) w k (omega arith) (omega arith) ∙ cell_left bits n k q)

-- ---- a number of 64 bits has no digit from 2^64 on
pub digit_past : (n i : ℕ) → n < 2 ^ 64 → 64 ≤ i → 0 ≡ digit_at n i
digit_past n i l m = let p : 2 ^ 64 ≤ 2 ^ i = pow_mono {i = 64} m in let q : n < 2 ^ i = omega arith in rw (div-eq_of_lt q)

-- ---- where a row lies within a board
-- a board of n bytes has room for n / w rows
pub no_room : {n w r : ℕ} → (w ≡ 0 → ⊥) → n / w ≤ r → n < suc r * w
no_room {n} {w} {r} some l = let p : 0 < w = omega (arith, some) in (div-lt_iff_lt-mul p).0 (omega arith)

pub has_room : {n w r : ℕ} → (w ≡ 0 → ⊥) → r < n / w → suc r * w ≤ n
has_room {n} {w} {r} some l =
    ⊎_elim (λ (q : n < suc r * w). let p : 0 < w = omega (arith, some) in absurd (omega (arith, (div-lt_iff_lt-mul p).1 q))) (λ (q : suc r * w ≤ n). q)
    (cases_lt n (suc r * w))

-- a row of no cells is written with nothing, and one that doesn't lie within the board isn't written
module _ (bits r n : ℕ) (board : List ℕ) where
  pub writes_none : row_writes bits 0 r n board ≡ board
  unfolding row_writes written
  writes_none = go (leb (suc r * 0) (length board))
    where
      go : (b : Bool) → cond b board board ≡ board
      go true = refl
      go false = refl

  pub writes_outside : (w : ℕ) → length board < suc r * w → row_writes bits w r n board ≡ board
  unfolding row_writes
  writes_outside w l = rw (lt-leb (suc r * w) (length board) l)

  pub writes_inside : (w : ℕ) → suc r * w ≤ length board → row_writes bits w r n board ≡ put_row bits w r n board
  unfolding row_writes
  writes_inside w l = rw (le-leb (suc r * w) (length board) l)
