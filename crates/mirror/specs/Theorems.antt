-- Req 06: what a mirror board is cell by cell, and what the check of lopsided grids says, both ways.
-- Assumes nothing.
use Rattle.std.specs.Prelude.{◌≡◌, List, [], ◌∷◌, ◌↔◌, ℕ, ◌+◌, ◌*◌, ◌-◌, ◌/◌, ◌%◌, ◌<◌, length, get_or}
use Rattle.board.specs.Answers.{passed, refuses}
use Rattle.mirror.specs.Mirror.{Mirrored, lopsided_check}

-- a board is a mirror board exactly when each cell has its reflection's state: row r and column k are from 0
abbrev pub MirroredCells : Type 0
MirroredCells =
    (w h : ℕ) (bytes : List ℕ) → length bytes ≡ w * h →
    Mirrored w h bytes ↔ ((r k : ℕ) → r < h → k < w → get_or bytes (r * w + (w - 1 - k)) 0 ≡ get_or bytes (r * w + k) 0)

-- the place of a cell's reflection
abbrev pub reflected_place : ℕ → ℕ → ℕ
reflected_place w place = place / w * w + (w - 1 - place % w)

-- the cell at a place of the grid, always in the left half, has another mark than its reflection, and no cell before it has
pub record FirstLopsided (w h : ℕ) (givens : List ℕ) (place : ℕ) : Type 0 where
  pub inside : place < w * h
  pub left : place % w < w / 2
  pub differs : get_or givens place 0 ≡ get_or givens (reflected_place w place) 0 → ⊥
  pub before : (p : ℕ) → p < place → get_or givens p 0 ≡ get_or givens (reflected_place w p) 0

-- Of w × h givens the check passes exactly when they equal their own reflection, and answers 15 with a place exactly when that is the first cell's
-- whose mark differs from its reflection's.
pub record LopsidedCheckRight (w h : ℕ) (givens : List ℕ) : Type 0 where
  pub passes : lopsided_check w h givens ≡ passed ↔ Mirrored w h givens
  pub turned : (place : ℕ) → lopsided_check w h givens ≡ refuses 15 (place ∷ []) ↔ FirstLopsided w h givens place

abbrev pub LopsidedChecksRight : Type 0
LopsidedChecksRight = (w h : ℕ) (givens : List ℕ) → length givens ≡ w * h → LopsidedCheckRight w h givens
