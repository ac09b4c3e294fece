-- `mirror::check` meets its contract. The loop's invariant: every place passed has its reflection's mark.
-- Assumes nothing.
use mathlib.Core.Path.{◌≡◌}
use Rattle.std.specs.Prelude.{None}
use Rattle.board.specs.Search.{first_not}
use Rattle.mirror.specs.Mirror.{same_reflected}
use Rattle.mirror.proofs.check.Given as goal

abbrev pub invariant-loop-place : goal.invariant-loop-place
invariant-loop-place l = first_not (same_reflected l.w l.h l.givens) l.place ≡ None
