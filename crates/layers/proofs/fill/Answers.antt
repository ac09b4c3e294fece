-- `layers::fill` meets its contract: a whole layer at once is its entries one after the other, and a part of one is left to `score_table::fill`.
-- Assumes nothing.
use mathlib.Core.Path.{◌≡◌, ◌∙◌, sym}
use mathlib.Core.Bool.{false}
use Rattle.score_table.proofs.Calls.{fits_read, fill_unfit}
use Rattle.layers.proofs.Layers.{once_suits, layer_lent, layer_written}
use Rattle.layers.proofs.fill.Goals as goal

pub returns-then-not-fill_fits : goal.returns-then-not-fill_fits
returns-then-not-fill_fits c = fill_unfit _ _ _ _ _ _ _ _ _ _ _ (sym c.fill_fits.ensures ∙ c.if-not-fill_fits.true)

pub by_columns-requires : goal.by_columns-requires
by_columns-requires c =
    λ (e : c.args.grid.want.halves ≡ false). rw e at (fits_read c.args.grid.want _ _ _ _ _ _ _ _ c.args.table.now (sym c.fill_fits.ensures ∙ c.if-not-fill_fits.false)).0.memory.width.narrow

pub fill-requires : goal.fill-requires
fill-requires c =
    layer_lent _ _ _ _ _ _ _ _ _ _ (sym c.fill_fits.ensures ∙ c.if-not-fill_fits.false) (once_suits _ _ _ _ _ _ (sym c.by_columns.ensures ∙ c.if-by_columns.true))

pub returns-then-by_columns : goal.returns-then-by_columns
returns-then-by_columns c =
    layer_written _ _ _ _ _ _ _ _ _ _ (sym c.fill_fits.ensures ∙ c.if-not-fill_fits.false) (once_suits _ _ _ _ _ _ (sym c.by_columns.ensures ∙ c.if-by_columns.true)) _ c.fill.ensures
