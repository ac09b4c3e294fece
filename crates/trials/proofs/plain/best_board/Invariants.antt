-- `trials::plain::best_board` meets its contract. The invariant: the score of the best board so far.
-- Assumes nothing.
use Rattle.std.proofs.Common.{◌≤◌}
use Rattle.std.specs.Prelude.{IfSome}
use Rattle.trials.proofs.plain.best_board.Given as goal

abbrev pub invariant-loop-k : goal.invariant-loop-k
invariant-loop-k l = IfSome l.best (λ b. b.score ≤ 64)
