-- `puzzle::solve_cells` meets its contract, case by case of what solving answers.
-- Assumes nothing.
use mathlib.Core.Path.{◌∙◌, ap}
use Rattle.std.specs.Prelude.{Ok}
use Rattle.puzzle.proofs.Solving.{solved_board, score_short, prints_solved}
use Rattle.puzzle.proofs.solve_cells.Goals as goal

pub put_best-requires : goal.put_best-requires
put_best-requires c =
    let S = rw c.conway.ensures at c.solve.ensures in
    let e = c.in-Ok-Some.is ∙ ap Ok c.in-Ok-Some.field-0-is in
    (solved_board S e, score_short S e, c.requires.1)

pub returns-in-Ok-Some : goal.returns-in-Ok-Some
returns-in-Ok-Some c =
    let g = c.give_live.ensures in
    (g, prints_solved (rw c.conway.ensures at c.solve.ensures) _ g (c.in-Ok-Some.is ∙ ap Ok c.in-Ok-Some.field-0-is) c.put_best.ensures)

pub returns-in-Ok-None : goal.returns-in-Ok-None
returns-in-Ok-None c =
    let g = c.give_live.ensures in
    (g, prints_solved (rw c.conway.ensures at c.solve.ensures) _ g (c.in-Ok-None.is ∙ ap Ok c.in-Ok-None.field-0-is) c.put.ensures)

pub returns-in-Err : goal.returns-in-Err
returns-in-Err c =
    let g = c.give_live.ensures in
    (g, prints_solved (rw c.conway.ensures at c.solve.ensures) _ g c.in-Err.is c.put_refusal.ensures)
