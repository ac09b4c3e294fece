-- `life::on_plane` meets its contract: what the checks pass is a board.
-- Assumes nothing.
use mathlib.Core.Path.{sym}
use Rattle.board.proofs.Answers.{let_through, passed_on}
use Rattle.life.specs.Calls.{life_check}
use Rattle.life.proofs.Checking.{taken}
use Rattle.life.proofs.on_plane.Goals as goal

pub invariant_of-result : goal.invariant_of-result
unfolding life_check
invariant_of-result c =
    let a = c.args in
    let cells = let_through c.check_cells.ensures c.in_ok-check_cells.was in
    record { board = (taken a.rule a.w a.h a.cells.now (sym (passed_on c.check.ensures c.in_ok-check.was (sym cells)))).1 }
