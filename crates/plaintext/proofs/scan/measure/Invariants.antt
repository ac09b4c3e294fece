-- `plaintext::scan::measure` meets its contract. The loop's invariant: the lines passed, and those left, make the text.
-- Assumes nothing.
use lib.ListN.{length}
use Rattle.plaintext.specs.Reading.{judged}
use Rattle.plaintext.specs.Scanning.{judged_left}
use Rattle.plaintext.proofs.Scans.{Passed}
use Rattle.plaintext.proofs.scan.measure.Given as goal

abbrev pub invariant-loop-line : goal.invariant-loop-line
invariant-loop-line l = (goal.iterator-loop-line).can_next l.line-iterator × (goal.iterator-loop-line).is_finite l.line-iterator
    × Passed (judged l.text l.at) (judged_left l.line-iterator) (length l.text) l.width l.height
