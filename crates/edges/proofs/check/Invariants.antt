-- `edges::check` meets its contract. The loop's invariant: no place passed is that of the middle of an edge three.
-- Assumes nothing.
use mathlib.Core.Path.{◌≡◌}
use mathlib.Core.Bool.{not}
use Rattle.std.specs.Prelude.{None}
use Rattle.board.specs.Search.{first_not}
use Rattle.edges.specs.Edges.{edge_three_at}
use Rattle.edges.proofs.check.Given as goal

abbrev pub invariant-loop-place : goal.invariant-loop-place
invariant-loop-place l = first_not (λ place. not (edge_three_at l.w l.h l.givens place)) l.place ≡ None
