-- `plaintext::scan::fill` meets its contract. The loop's invariant: k cells are written, and what is left to write is the cells of the lines
-- left.
-- Assumes nothing.
use Rattle.plaintext.specs.Reading.{judged}
use Rattle.plaintext.specs.Scanning.{judged_left}
use Rattle.plaintext.proofs.Scans.{Copied}
use Rattle.plaintext.proofs.scan.fill.Given as goal

abbrev pub invariant-loop-line : goal.invariant-loop-line
invariant-loop-line l = (goal.iterator-loop-line).can_next l.line-iterator × (goal.iterator-loop-line).is_finite l.line-iterator
    × Copied l.w (judged l.text l.at) (judged_left l.line-iterator) l.fn.cells l.cells l.k
