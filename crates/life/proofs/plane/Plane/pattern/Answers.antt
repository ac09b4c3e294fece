-- `life::plane::Plane::pattern` meets its contract: its three rows are the plane's.
-- Assumes nothing.
use Rattle.life.specs.Plane.{around}
use Rattle.life.proofs.OnPlane.{pred_one, pred_one_more}
use borrow.Author.Rules.{rules}
use Rattle.life.proofs.plane.Plane.pattern.Goals as goal

pub returns : goal.returns
unfolding around
returns c = (
  rw (
    c.three_at-3.ensures.0,
    c.three_at-2.ensures.0,
    c.three_at.ensures.0,
    pred_one,
    pred_one_more,
  ),
  search rules,
)
