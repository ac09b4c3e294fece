-- `job::numbers::stage_of` meets its contract: the unit's round says whether it fills.
-- Assumes nothing.
use mathlib.Core.Path.{◌∙◌}
use borrow.Author.Tests.{ne_eqb}
use Rattle.job.specs.Jobs.{stage_of}
use Rattle.job.proofs.Rounds.{fills_left}
use Rattle.job.proofs.numbers.stage_of.Goals as goal

pub returns-in_default : goal.returns-in_default
unfolding stage_of
returns-in_default c =
    c.running.ensures
    ∙ simp (ne_eqb _ 1 c.in_default.in_default-own.rest.0.1, ne_eqb _ 2 c.in_default.in_default-own.rest.1, fills_left c.round_of-x.ensures)
