-- `life::judge` meets its contract: past the checks it is the first change by the rule's table.
-- Assumes nothing.
use mathlib.Core.Path.{◌≡◌, ◌∙◌, sym, ap}
use mathlib.Core.List.{[]}
use Rattle.board.specs.Answers.{passed, says}
use Rattle.rule.specs.Rule.{next_under}
use Rattle.life.specs.Calls.{life_check, judge_rule}
use Rattle.life.proofs.Same.{judged_same}
use Rattle.life.proofs.judge.Goals as goal

pub returns : goal.returns
unfolding judge_rule
returns c =
    let a = c.args in
    let board = c.in_ok-plane.ensures.board in
    let checked : life_check a.rule a.w a.h a.cells.now ≡ passed = sym c.on_plane.ensures.says ∙ ap (says (λ plane. [])) c.in_ok-plane.was in
    rw (checked, ← board.0, ← board.1, ← board.2)
    (c.first_change.ensures ∙ judged_same _ (next_under _) c.of.ensures.entry c.in_ok-plane.plane.board.bytes)
