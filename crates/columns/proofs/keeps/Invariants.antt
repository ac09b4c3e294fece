-- `columns::keeps` meets its contract. The loop's invariant: the masks passed are written.
-- Assumes nothing.
use Rattle.rule.specs.Rule.{entry_of}
use Rattle.column_elimination.specs.Columns.{mask_of, pattern_kept}
use Rattle.column_elimination.specs.Written.{Wrote}
use Rattle.columns.proofs.keeps.Given as goal

abbrev pub invariant-loop-p : goal.invariant-loop-p
invariant-loop-p l = Wrote 0 l.p (λ x. mask_of (pattern_kept (entry_of l.next) x)) l.initial.keep l.keep
