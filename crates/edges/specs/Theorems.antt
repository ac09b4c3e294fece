-- Req 04: what the check of edge threes says, both ways.
-- Assumes nothing.
use Rattle.std.specs.Prelude.{◌≡◌, true, false, List, [], ◌∷◌, ◌↔◌, ℕ, ◌*◌, ◌<◌}
use Rattle.board.specs.Answers.{passed, refuses}
use Rattle.rule.specs.declared.Rule.{Rule}
use Rattle.edges.specs.Edges.{edge_three, edge_three_at, born_on3, edge_check}

-- a place of the grid is that of the middle of an edge three, and no place before it is
pub record FirstMiddle (w h : ℕ) (givens : List ℕ) (place : ℕ) : Type 0 where
  pub inside : place < w * h
  pub middle : edge_three_at w h givens place ≡ true
  pub before : (p : ℕ) → p < place → edge_three_at w h givens p ≡ false

-- Under a rule with birth on 3 the check passes exactly when no cell is the middle of an edge three, and answers 14 with a place exactly when that is
-- the first such cell's. Under any other rule it passes.
pub record EdgeCheckRight (rule : Rule) (w h : ℕ) (givens : List ℕ) : Type 0 where
  pub passes : born_on3 rule ≡ true → edge_check rule w h givens ≡ passed ↔ ((r c : ℕ) → edge_three w h givens r c ≡ false)
  pub turned : born_on3 rule ≡ true → (place : ℕ) → edge_check rule w h givens ≡ refuses 14 (place ∷ []) ↔ FirstMiddle w h givens place
  pub other : born_on3 rule ≡ false → edge_check rule w h givens ≡ passed

abbrev pub EdgeChecksRight : Type 0
EdgeChecksRight = (rule : Rule) (w h : ℕ) (givens : List ℕ) → EdgeCheckRight rule w h givens
