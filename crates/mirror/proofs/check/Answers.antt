-- `mirror::check` meets its contract: the search stops at the first place whose mark differs.
-- Assumes nothing.
use mathlib.Core.Path.{sym, ◌∙◌}
use Rattle.board.proofs.Search.{some_at}
use Rattle.mirror.specs.Mirror.{same_reflected, lopsided_check}
use Rattle.mirror.proofs.check.Goals as goal

pub returns-then-not-is_same_reflected : goal.returns-then-not-is_same_reflected
unfolding lopsided_check
returns-then-not-is_same_reflected c =
    let a = c.args in
    rw (some_at (same_reflected a.w a.h a.givens.now) _ _ c.loop-place-test.true c.loop-place.invariant
    (sym c.is_same_reflected.ensures ∙ c.if-not-is_same_reflected.true))
