-- `solver::choosing::choose` meets its contract, by the row that is chosen.
-- Assumes nothing.
use mathlib.Core.Path.{◌∙◌, ap}
use Rattle.job.specs.Jobs.{after_unit}
use Rattle.solver.proofs.Steps.{spoils, ends_by_none, goes_on_by_row}
use Rattle.solver.proofs.choosing.choose.Goals as goal
use Rattle.solver.proofs.choosing.choose.Goals.{in-Some, in-None+else-r-ne0}

pub returns-then-r-ne0 : goal.returns-then-r-ne0
returns-then-r-ne0 c =
    let g = c.grid_of-grid.ensures in
    let picks = rw (c.numbers-t.ensures, g.0, g.1, g.2, g.3, g.4) at c.choose_row-chosen.ensures in
    spoils _ _ _ _ _ _ c.requires.chooses _ c.requires.holds picks c.in-None.is c.if-r-ne0.true

pub returns : goal.returns
returns c =
    let g = c.grid_of-grid.ensures in
    let picks = rw (c.numbers-t.ensures, g.0, g.1, g.2, g.3, g.4) at c.choose_row-chosen.ensures in
    let C = c.requires.chooses in
    elim c.match-chosen.branch [
      | in-Some w ↦
          goes_on_by_row _ _ _ _ _ _ C _ c.requires.holds picks _ w.in-Some.is _ (c.after.ensures ∙ ap (after_unit c.args.job) w.chosen-is) _
          (w.board-is ∙ rw w.row_digits.ensures at w.write_row.ensures)
      | in-None+else-r-ne0 w ↦
          rw w.board-is (ends_by_none _ _ _ _ _ _ C _ c.requires.holds picks w.in-None.is w.if-r-ne0.false _ (c.after.ensures ∙ ap (after_unit c.args.job) w.chosen-is))
    ]
