-- `score_table::fits` meets its contract; the sum is tested as a difference, which can't wrap.
-- Assumes nothing.
use mathlib.Core.Path.{◌∙◌, sym}
use borrow.Author.Rules.{rules}
use Rattle.board.proofs.Widths.{width_le}
use Rattle.score_table.proofs.Calls.{grid_of}
use Rattle.score_table.proofs.fits.Goals as goal

pub overflow_sub-result : goal.overflow_sub-result
overflow_sub-result c = let m = width_le _ _ (grid_of _ _ _ _ (sym c.grid_fits.ensures ∙ c.if-grid_fits.true)).width in search rules
