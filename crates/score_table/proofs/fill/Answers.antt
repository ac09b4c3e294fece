-- `score_table::fill` meets its contract: nothing is written unless there are such entries and the memory fits.
-- Assumes nothing.
use mathlib.Core.Path.{◌∙◌, sym}
use Rattle.score_table.proofs.Calls.{fits_read, fill_unfit, fill_done}
use Rattle.score_table.proofs.fill.Goals as goal

pub write_entries-requires : goal.write_entries-requires
write_entries-requires c = fits_read _ _ _ _ _ _ _ _ _ _ (sym c.fill_fits.ensures ∙ c.if-fill_fits.true)

pub returns-then-fill_fits : goal.returns-then-fill_fits
returns-then-fill_fits c =
    c.write_entries.ensures ∙ fill_done _ _ _ _ _ _ _ _ _ _ _ (sym c.fill_fits.ensures ∙ c.if-fill_fits.true)

pub returns-else-fill_fits : goal.returns-else-fill_fits
returns-else-fill_fits c = fill_unfit _ _ _ _ _ _ _ _ _ _ _ (sym c.fill_fits.ensures ∙ c.if-fill_fits.false)
