-- `life::step` meets its contract: past the checks the buffer holds what `write_step` leaves.
-- Assumes nothing.
use mathlib.Core.Path.{◌≡◌, ◌∙◌, sym, ap}
use mathlib.Core.List.{[]}
use borrow.Author.Tests.{eq-eqb}
use Rattle.board.specs.Answers.{passed, says}
use Rattle.rule.specs.Rule.{next_under}
use Rattle.life.specs.Calls.{life_check, step_rule, step_writes}
use Rattle.life.proofs.Same.{stepped_same}
use Rattle.life.proofs.step.Goals as goal

pub returns : goal.returns
unfolding step_rule step_writes
returns c =
    let a = c.args in
    let board = c.in_ok-plane.ensures.board in
    let checked : life_check a.rule a.w a.h a.cells.now ≡ passed = sym c.on_plane.ensures.says ∙ ap (says (λ plane. [])) c.in_ok-plane.was in (
      simp (checked, eq-eqb _ _ c.if-ring-w.false),
      simp (checked, eq-eqb _ _ c.if-ring-w.false)
          (rw (← board.0, ← board.1, ← board.2)
          (c.write_step.ensures ∙ stepped_same _ (next_under _) c.of.ensures.entry c.in_ok-plane.plane.board.bytes)),
    )
