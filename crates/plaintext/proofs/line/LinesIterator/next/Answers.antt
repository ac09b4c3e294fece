-- `next` of the lines meets its contract: the line at the place is the first of those left, and a step leaves the lines after it.
-- Assumes nothing.
use mathlib.Core.Path.{refl, ap}
use borrow.Author.Rules.{rules}
use lib.ListN.{length}
use Rattle.plaintext.proofs.Lines.{judged_none, judged_next}
use Rattle.plaintext.proofs.line.LinesIterator.next.Goals as goal

pub returns-then-self-clause-steps : goal.returns-then-self-clause-steps
returns-then-self-clause-steps c = record { judges = (judged_none _ _ c.if-self.true, judged_none _ _ c.if-self.true); starts = tt }

pub returns-clause-steps : goal.returns-clause-steps
returns-clause-steps c = record { judges = judged_next _ _ _ c.at-line.ensures; starts = (c.at-line.ensures, refl) }

pub returns-clause-goes : goal.returns-clause-goes
returns-clause-goes c =
    let shorter = ap length (judged_next _ _ _ c.at-line.ensures) in
    search rules
