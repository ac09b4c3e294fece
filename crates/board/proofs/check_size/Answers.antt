-- `board::check_size` meets its contract: the width's tests decide, or else the height's check. No name here has the number that the code tests against.
-- Assumes nothing.
use mathlib.Core.Path.{sym, ◌∙◌}
use native.Mathlib.Omega.{arith}
use borrow.Author.Tests.{le-leb}
use Rattle.board.specs.Checks.{size_check}
use Rattle.board.proofs.check_size.Goals as goal

pub returns-then-not-width_fits : goal.returns-then-not-width_fits
unfolding size_check
returns-then-not-width_fits c = simp (le-leb 1 c.args.w (omega arith), sym c.width_fits.ensures ∙ c.if-not-width_fits.true)

pub returns : goal.returns
unfolding size_check
returns c = rw (le-leb 1 c.args.w (omega arith), sym c.width_fits.ensures ∙ c.if-not-width_fits.false) c.check_height.ensures
