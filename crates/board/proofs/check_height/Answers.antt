-- `board::check_height` meets its contract: the limit's test decides.
-- Assumes nothing.
use mathlib.Core.Path.{sym, ◌∙◌}
use Rattle.board.proofs.check_height.Goals as goal

pub returns-then-is_among : goal.returns-then-is_among
returns-then-is_among c = simp (sym c.is_among.ensures ∙ c.if-is_among.true)

pub returns-else-is_among : goal.returns-else-is_among
returns-else-is_among c = simp (sym c.is_among.ensures ∙ c.if-is_among.false)
