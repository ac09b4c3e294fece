-- `rule::table::next_of` meets its contract: the centre's digit picks births or survivals.
-- Assumes nothing.
use mathlib.Core.Path.{◌∙◌, ap}
use borrow.Author.Tests.{eq-eqb, ne_eqb}
use Rattle.rule.specs.Rule.{has_count, next_under}
use Rattle.rule.proofs.table.next_of.Goals as goal

pub returns-then-p-eq0 : goal.returns-then-p-eq0
unfolding next_under
returns-then-p-eq0 c = simp (eq-eqb _ _ c.if-p-eq0.true) (c.has_count.ensures ∙ ap (has_count _) c.live_around-live.ensures.0)

pub returns-else-p-eq0 : goal.returns-else-p-eq0
unfolding next_under
returns-else-p-eq0 c = simp (ne_eqb _ _ c.if-p-eq0.false) (c.has_count-else-p-eq0.ensures ∙ ap (has_count _) c.live_around-live.ensures.0)
