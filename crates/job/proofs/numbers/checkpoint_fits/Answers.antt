-- `job::numbers::checkpoint_fits` meets its contract: its tests are the definition's, in the same order.
-- Assumes nothing.
use mathlib.Core.Path.{◌≡◌, sym, ◌∙◌}
use mathlib.Core.Bool.{Bool, true, false, ◌&&◌}
use borrow.Author.Tests.{eq-eqb}
use Rattle.std.specs.Prelude.{Result, is_err}
use Rattle.board.specs.Answers.{check_says}
use Rattle.board.specs.Boards.{max_height, among, is_width}
use Rattle.board.specs.declared.Refusal.{Refusal}
use Rattle.elimination.specs.Shape.{numbers_fit}
use Rattle.rule.specs.Rule.{rule_fits, grid_check}
use Rattle.rule.specs.declared.Rule.{Rule}
use Rattle.job_kind.specs.Kinds.{halves_of}
use Rattle.job_kind.specs.declared.Kind.{Kind}
use Rattle.job.specs.Jobs.{rule_of, checkpoint_fits}
use Rattle.job.specs.declared.Checkpoint.{Checkpoint}
use Rattle.job.proofs.Fits.{Frame, frame_fits}
use Rattle.job.proofs.Checkpoints.{turned_misfits, passed_frame}
use Rattle.job.proofs.numbers.checkpoint_fits.Goals as goal

-- what the check of the size and the rule shows
module _ (kind : Kind) (t : Checkpoint) {halves : Bool} {rule : Rule} (p : halves ≡ halves_of kind) (q : rule ≡ rule_of t) where
  misfit : (k : Result Unit Refusal) (b : Bool) → check_says k ≡ grid_check halves rule t.width t.height → b ≡ is_err k → b ≡ true
      → is_width (halves_of kind) t.width && among max_height t.height && rule_fits (rule_of t) ≡ false
  misfit k b e d u = turned_misfits kind (rule_of t) t.width t.height k (rw (q, p) at e) (sym d ∙ u)

  framed : (k : Result Unit Refusal) (b : Bool) → check_says k ≡ grid_check halves rule t.width t.height → b ≡ is_err k → b ≡ false → Frame kind (rule_of t) t.width t.height
  framed k b e d u = passed_frame kind (rule_of t) t.width t.height k (rw (q, p) at e) (sym d ∙ u)

pub returns-then-is_err : goal.returns-then-is_err
unfolding checkpoint_fits
returns-then-is_err c =
    simp (
      eq-eqb _ _ (c.if-t-number.false ∙ c.number.ensures),
      misfit c.args.kind c.args.t c.halves.ensures c.rule_of.ensures _ _ c.check.ensures c.is_err.ensures.value c.if-is_err.true,
    )

pub invariant_of-shape : goal.invariant_of-shape
invariant_of-shape c =
    let F = framed c.args.kind c.args.t c.halves.ensures c.rule_of.ensures _ _ c.check.ensures c.is_err.ensures.value c.if-is_err.false in
    record { narrow = F.size.width; low = F.size.low }

pub rows_chosen-k-requires : goal.rows_chosen-k-requires
rows_chosen-k-requires c =
    let F = framed c.args.kind c.args.t c.halves.ensures c.rule_of.ensures _ _ c.check.ensures c.is_err.ensures.value c.if-is_err.false in
    (F.size.some_row, c.round_of-x.ensures, sym c.units_fit.ensures ∙ c.if-not-units_fit.false)

pub returns : goal.returns
unfolding checkpoint_fits numbers_fit
returns c =
    let F = framed c.args.kind c.args.t c.halves.ensures c.rule_of.ensures _ _ c.check.ensures c.is_err.ensures.value c.if-is_err.false in
    rw (c.rows_fit.ensures, c.rows_chosen-k.ensures.0)
    (simp (
      eq-eqb _ _ (c.if-t-number.false ∙ c.number.ensures),
      frame_fits F,
      sym c.is_row.ensures ∙ c.if-not-is_row.false,
      sym c.is_row-else-not-is_row.ensures ∙ c.if-not-is_row-2.false,
      sym c.units_fit.ensures ∙ c.if-not-units_fit.false,
    ))
