-- Rows and cells: a row's digits are its cells, its worth is what they earn, and a board is its rows.
-- Assumes nothing.
use mathlib.Core.Path.{◌≡◌, refl, sym, ◌∙◌, ap}
use mathlib.Core.Bool.{Bool, true, false}
use mathlib.Core.List.{List, []}
use Prim.Native.Nat.{ℕ, suc, ◌+◌, ◌*◌, ◌-◌, ◌/◌, ◌%◌, ◌<◌}
use native.Mathlib.Nat.{mul_comm, div-add-mod', mod-lt, div-lt_iff_lt-mul}
use native.Mathlib.Numerals.{add-one}
use native.Mathlib.Omega.{arith}
use lib.IntN.{ℤ, pos}
use lib.ListN.{get_or}
use lib.Seq.{ext_get_or}
use Rattle.board.specs.Boards.{Bytes}
use Rattle.board.specs.Sums.{total}
use Rattle.board.proofs.Sums.{total_none, total_same, total_add}
use Rattle.board.proofs.Tests.{among_yes, among_past}
use Rattle.life.specs.Plane.{on_plane}
use Rattle.life.specs.Rows.{row_of, digit_in, cell_of}
use Rattle.life.proofs.OnPlane.{on_board}
use Rattle.life.proofs.Rows.{row_cells}
use Rattle.third_demand.specs.Grid.{score, population, count_by}
use Rattle.score_table.specs.Rows.{cell_worth, row_worth, marks_of}
use Rattle.score_table.proofs.Marks.{worth_free}

-- rows outside 1 to h are dead
module _ (w h : ℕ) (cells : List ℕ) where
  pub row_none : row_of w h cells 0 ≡ 0
  unfolding row_of
  row_none = refl

  pub row_past : (r : ℕ) → h < r → row_of w h cells r ≡ 0
  unfolding row_of
  row_past r l = rw (among_past h r l)

module _ {w h : ℕ} {board : List ℕ} (b : Bytes 1 w h board) where
  -- a digit is the cell
  pub row_digit : (r k : ℕ) → r < h → k < w → digit_in w (row_of w h board (suc r)) (k + 1) ≡ get_or board (r * w + k) 0
  unfolding cell_of
  row_digit r k p q =
      let e : cell_of w (row_of w h board (suc r)) (pos (suc k)) ≡ on_plane w h board (pos (suc r)) (pos (suc k)) =
      ap (λ (f : ℤ → ℕ). f (pos (suc k))) (row_cells b (suc r)) in
      rw (add-one k) (rw (among_yes w (suc k) (omega arith) q) at e ∙ on_board w h board r k p q)

  -- ---- what cells count, each by its place and its state: one row more
  count_more : (earns : ℕ → ℕ → ℕ) (r : ℕ) → r < h
      → total (λ p. earns p (get_or board p 0)) (w * suc r) ≡ total (λ p. earns p (get_or board p 0)) (w * r) + total (λ k. earns (r * w + k) (digit_in w (row_of w h board (suc r)) (k + 1))) w
  count_more earns r l =
      let e : w * suc r ≡ r * w + w = omega arith in
      let f : w * r ≡ r * w = mul_comm w r in
      let m = total_same (λ k. earns (r * w + k) (digit_in w (row_of w h board (suc r)) (k + 1))) (λ k. earns (r * w + k) (get_or board (r * w + k) 0)) w
      (λ k q. ap (earns (r * w + k)) (row_digit r k l q)) in
      rw (e, f, m) (total_add (λ p. earns p (get_or board p 0)) (r * w) w)

  pub score_more : (g : List ℕ) (r : ℕ) → r < h → score w (suc r) g board ≡ score w r g board + row_worth w g (r * w) (row_of w h board (suc r))
  unfolding score row_worth
  score_more g r l = count_more (λ p x. cell_worth (get_or g p 0) x) r l

pub score_none : (w : ℕ) (g board : List ℕ) → score w 0 g board ≡ 0
unfolding score
score_none w g board = let e : w * 0 ≡ 0 = omega arith in rw e (total_none (λ p. cell_worth (get_or g p 0) (get_or board p 0)))

-- what a board counts is its score by the marks that rows go by: where none are lent all live cells are free
pub count_score : (target : Bool) (w h : ℕ) (g board : List ℕ) → count_by target w h g board ≡ score w h (marks_of target g) board
unfolding score population
count_score true w h g board =
    total_same (λ p. get_or board p 0) (λ p. cell_worth (get_or [] p 0) (get_or board p 0)) (w * h) (λ p l. sym (worth_free (get_or [] p 0) (get_or board p 0) (λ e. omega arith) (λ e. omega arith)))
count_score false w h g board = refl

-- ---- a board is its rows
-- a place of a board is a column of one of its rows, both counted from 0
pub record Place (w h p : ℕ) : Type 0 where
  pub row : ℕ
  pub column : ℕ
  pub inside : row < h
  pub narrow : column < w
  pub is : p ≡ row * w + column

pub place : (w h p : ℕ) → 0 < w → p < w * h → Place w h p
place w h p wide l = record {
  row = p / w;
  column = p % w;
  inside = (div-lt_iff_lt-mul wide).1 (rw (mul_comm w h) at l);
  narrow = mod-lt p wide;
  is = sym (div-add-mod' p w);
}

pub same_rows : {w h : ℕ} {board other : List ℕ} → 0 < w → Bytes 1 w h board → Bytes 1 w h other
    → ((r : ℕ) → r < h → row_of w h board (suc r) ≡ row_of w h other (suc r)) → board ≡ other
same_rows {w} {h} {board} {other} wide b o e =
    ext_get_or 0 board other (b.long ∙ sym o.long) (λ p l. at p (place w h p wide (rw b.long at l)))
  where
    at : (p : ℕ) → Place w h p → get_or board p 0 ≡ get_or other p 0
    at p q =
        rw q.is
        (sym (row_digit b q.row q.column q.inside q.narrow)
        ∙ ap (λ (x : ℕ). digit_in w x (q.column + 1)) (e q.row q.inside)
        ∙ row_digit o q.row q.column q.inside q.narrow)
