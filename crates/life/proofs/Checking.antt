-- What stepping and judging take: an allowed rule and a board.
-- Assumes nothing.
use mathlib.Core.Path.{◌≡◌}
use mathlib.Core.Bool.{false}
use mathlib.Core.List.{List}
use Prim.Native.Nat.{ℕ}
use Rattle.board.specs.Answers.{gives, passed}
use Rattle.board.specs.Boards.{Board}
use Rattle.board.specs.Checks.{cells_check}
use Rattle.board.proofs.Answers.{then_gives}
use Rattle.board.proofs.Checks.{cells_of, cells_pass}
use Rattle.board.proofs.Widths.{size_by, by_size}
use Rattle.rule.specs.Rule.{Allowed, grid_check}
use Rattle.rule.specs.declared.Rule.{Rule}
use Rattle.rule.proofs.Rules.{grid_allowed, grid_passes}
use Rattle.life.specs.Calls.{life_check}

module _ (rule : Rule) where
  pub taken : (w h : ℕ) (cells : List ℕ) {vs : List ℕ} → life_check rule w h cells ≡ gives vs → Allowed rule × Board w h cells
  unfolding life_check
  taken w h cells e =
      let p = then_gives (grid_check false rule w h) (cells_check w h cells) e in
      let g = grid_allowed rule false w h p.0.1 in
      (g.1, record { size = by_size g.0; bytes = cells_of w h cells p.1 })

  pub taken_passes : {w h : ℕ} {cells : List ℕ} → Allowed rule → Board w h cells → life_check rule w h cells ≡ passed
  unfolding life_check
  taken_passes a b = rw (grid_passes rule false (size_by b.size) a) (cells_pass b.bytes)
