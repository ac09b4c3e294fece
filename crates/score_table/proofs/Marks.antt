-- Marks of a cell, what a cell earns by its mark, and that a row earns at most its width.
-- Assumes nothing.
use mathlib.Core.Path.{◌≡◌, refl}
use mathlib.Core.Bool.{Bool, true, false}
use mathlib.Core.List.{List}
use Prim.Native.Nat.{ℕ, ◌+◌, ◌≤◌}
use native.Mathlib.Omega.{arith}
use borrow.Author.Tests.{eq-eqb, ne_eqb, eqb-true, eqb-false}
use lib.Dec.{eqb}
use lib.ListN.{get_or}
use Rattle.board.proofs.Sums.{total_le}
use Rattle.life.specs.Rows.{digit_in}
use Rattle.score_table.specs.Rows.{cell_worth, row_worth}

pub data MarkIs (mark : ℕ) : Type 0 where
  is_dead : mark ≡ 1 → MarkIs mark
  is_live : mark ≡ 2 → MarkIs mark
  is_free : (mark ≡ 1 → ⊥) → (mark ≡ 2 → ⊥) → MarkIs mark

pub mark_is : (mark : ℕ) → MarkIs mark
mark_is mark = go (eqb mark 1) refl (eqb mark 2) refl
  where
    go : (s : Bool) → eqb mark 1 ≡ s → (t : Bool) → eqb mark 2 ≡ t → MarkIs mark
    go true e t f = is_dead (eqb-true mark 1 e)
    go false e true f = is_live (eqb-true mark 2 f)
    go false e false f = is_free (eqb-false mark 1 e) (eqb-false mark 2 f)

-- a given cell earns nothing, a free one what it is
pub worth_dead : (mark cell : ℕ) → mark ≡ 1 → cell_worth mark cell ≡ 0
unfolding cell_worth
worth_dead mark cell e = rw (eq-eqb mark 1 e)

pub worth_live : (mark cell : ℕ) → mark ≡ 2 → cell_worth mark cell ≡ 0
unfolding cell_worth
worth_live mark cell e = rw (ne_eqb mark 1 (omega arith), eq-eqb mark 2 e)

pub worth_free : (mark cell : ℕ) → (mark ≡ 1 → ⊥) → (mark ≡ 2 → ⊥) → cell_worth mark cell ≡ cell
unfolding cell_worth
worth_free mark cell p q = rw (ne_eqb mark 1 p, ne_eqb mark 2 q)

pub cell_worth_le : (mark cell : ℕ) → cell_worth mark cell ≤ cell
cell_worth_le mark cell = go (mark_is mark)
  where
    go : MarkIs mark → cell_worth mark cell ≤ cell
    go (is_dead e) = omega (arith, worth_dead mark cell e)
    go (is_live e) = omega (arith, worth_live mark cell e)
    go (is_free p q) = omega (arith, worth_free mark cell p q)

pub row_worth_le : (w : ℕ) (g : List ℕ) (at c : ℕ) → row_worth w g at c ≤ w
unfolding row_worth
row_worth_le w g at c =
    omega (arith, total_le (λ k. cell_worth (get_or g (at + k) 0) (digit_in w c (k + 1))) 1 (λ k. omega (arith, cell_worth_le (get_or g (at + k) 0) (digit_in w c (k + 1)))) w)
