-- `score_table::fill_fits` meets its contract: its tests are the definition's, in the same order.
-- Assumes nothing.
use mathlib.Core.Path.{◌≡◌, ◌∙◌, sym}
use Prim.Native.Nat.{◌^◌}
use native.Mathlib.Omega.{arith}
use borrow.Author.Tests.{eq-eqb}
use Rattle.score_table.specs.Rows.{digits_of}
use Rattle.score_table.proofs.Calls.{call_narrow, fits_unfit, fits_past, fits_outside, fits_target, fits_last, fits_source}
use Rattle.score_table.proofs.fill_fits.Goals as goal
use Rattle.score_table.proofs.fill_fits.Goals.{then-not-fits-via-then-not-fits, then-not-fits-via-else-not-fits+then-grid-entries, then-q-entries-via-then-q-entries, then-q-entries-via-else-q-entries+then-q-entries-2}

pub returns-then-not-fits : goal.returns-then-not-fits
returns-then-not-fits c =
    elim c.then-not-fits.branch [
      | then-not-fits-via-then-not-fits w ↦ fits_unfit _ _ _ _ _ _ _ _ _ _ (sym c.fits.ensures ∙ w.if-not-fits.true)
      | then-not-fits-via-else-not-fits+then-grid-entries w ↦ fits_past _ _ _ _ _ _ _ _ _ _ (sym c.fits.ensures ∙ w.if-not-fits.false) w.if-grid-entries.true
    ]

pub layer_size-q-requires : goal.layer_size-q-requires
layer_size-q-requires c = call_narrow c.args.grid.want _ _ _ c.fits.ensures c.if-not-fits.false c.row_digits-bits.ensures

pub returns-then-q-entries : goal.returns-then-q-entries
returns-then-q-entries c =
    let g = c.args.grid in
    let size : c.layer_size-q.result ≡ 4 ^ digits_of g.want g.width = rw c.row_digits-bits.ensures at c.layer_size-q.ensures.0 in
    elim c.then-q-entries.branch [
      | then-q-entries-via-then-q-entries w ↦
          fits_outside _ _ _ _ _ _ _ _ _ _ (sym c.fits.ensures ∙ c.if-not-fits.false) c.if-grid-entries.false (omega (arith, w.if-q-entries.true))
      | then-q-entries-via-else-q-entries+then-q-entries-2 w ↦
          fits_outside _ _ _ _ _ _ _ _ _ _ (sym c.fits.ensures ∙ c.if-not-fits.false) c.if-grid-entries.false (omega (arith, w.if-q-entries.false, w.if-q-entries-2.true))
    ]

pub layer_fits-requires : goal.layer_fits-requires
layer_fits-requires c = call_narrow c.args.grid.want _ _ _ c.fits.ensures c.if-not-fits.false c.row_digits-bits.ensures

pub layer_fits-requires-else-entries-eq0 : goal.layer_fits-requires-else-entries-eq0
layer_fits-requires-else-entries-eq0 c = call_narrow c.args.grid.want _ _ _ c.fits.ensures c.if-not-fits.false c.row_digits-bits.ensures

pub returns-then-entries-eq0 : goal.returns-then-entries-eq0
returns-then-entries-eq0 c =
    let g = c.args.grid in
    let size : c.layer_size-q.result ≡ 4 ^ digits_of g.want g.width = rw c.row_digits-bits.ensures at c.layer_size-q.ensures.0 in
    eq-eqb _ _ c.if-entries-eq0.true
    ∙ fits_last _ _ _ _ _ _ _ _ _ _ (sym c.fits.ensures ∙ c.if-not-fits.false) c.if-grid-entries.false (omega arith)
    (rw c.row_digits-bits.ensures at (sym c.layer_fits.ensures ∙ c.if-layer_fits.true)) c.if-entries-eq0.true

pub returns-else-entries-eq0 : goal.returns-else-entries-eq0
returns-else-entries-eq0 c =
    let g = c.args.grid in
    let size : c.layer_size-q.result ≡ 4 ^ digits_of g.want g.width = rw c.row_digits-bits.ensures at c.layer_size-q.ensures.0 in
    rw c.row_digits-bits.ensures at c.layer_fits-else-entries-eq0.ensures
    ∙ fits_source _ _ _ _ _ _ _ _ _ _ (sym c.fits.ensures ∙ c.if-not-fits.false) c.if-grid-entries.false (omega arith)
    (rw c.row_digits-bits.ensures at (sym c.layer_fits.ensures ∙ c.if-layer_fits.true)) c.if-entries-eq0.false

pub returns-else-layer_fits : goal.returns-else-layer_fits
returns-else-layer_fits c =
    let g = c.args.grid in
    let size : c.layer_size-q.result ≡ 4 ^ digits_of g.want g.width = rw c.row_digits-bits.ensures at c.layer_size-q.ensures.0 in
    c.if-layer_fits.false
    ∙ fits_target _ _ _ _ _ _ _ _ _ _ (sym c.fits.ensures ∙ c.if-not-fits.false) c.if-grid-entries.false (omega arith)
    (rw c.row_digits-bits.ensures at (sym c.layer_fits.ensures ∙ c.if-layer_fits.false))
