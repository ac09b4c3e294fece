-- `job::shape::Shape::task_at` meets its contract: the unit's round says what it does.
-- Assumes nothing.
use borrow.Author.Tests.{lt-ltb, le-ltb}
use Rattle.job.proofs.Rounds.{fills_entry, rows_spent}
use Rattle.job.proofs.shape.Shape.task_at.Goals as goal

pub fill_at-requires : goal.fill_at-requires
fill_at-requires c = (fills_entry c.round_of-x.ensures c.if-x-ne0.true).0

pub returns-then-x-ne0 : goal.returns-then-x-ne0
returns-then-x-ne0 c =
    let F = fills_entry c.round_of-x.ensures c.if-x-ne0.true in
    rw (c.fill_at.ensures, lt-ltb _ _ F.1, F.2)

pub returns : goal.returns
returns c = rw (le-ltb _ _ (rows_spent c.round_of-x.ensures c.if-x-self.false))
