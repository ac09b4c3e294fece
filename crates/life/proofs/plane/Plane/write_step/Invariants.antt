-- `life::plane::Plane::write_step` meets its contract. The loop's invariant: the bytes passed are the next states, the others are as they were.
-- Assumes nothing.
use Rattle.std.specs.Prelude.{◌≡◌, ◌++◌, drop}
use Rattle.board.specs.Lists.{listed}
use Rattle.rule.specs.Rule.{entry_of}
use Rattle.life.specs.Calls.{next_at}
use Rattle.life.proofs.plane.Plane.write_step.Given as goal

abbrev pub invariant-loop-k : goal.invariant-loop-k
invariant-loop-k l = l.ring ≡ listed (next_at (entry_of l.next) l.self.width l.self.height l.self.cells.now) l.k ++ drop l.k l.initial.ring
