-- `rule::table::fill` meets its contract. The loop's invariant: the entries passed are the rule's, the others are as they were.
-- The measure: the entries left. Assumes nothing.
use mathlib.Core.Path.{◌≡◌}
use mathlib.Core.List.{◌++◌}
use Prim.Native.Nat.{◌-◌, ◌≤◌}
use lib.ListN.{length, drop}
use Rattle.board.specs.Lists.{listed}
use Rattle.rule.specs.Rule.{next_under}
use Rattle.rule.proofs.table.fill.Given as goal

abbrev pub invariant-loop-p : goal.invariant-loop-p
invariant-loop-p l = (l.p ≤ length l.initial.table) × (length l.table ≡ length l.initial.table) × (l.table ≡ listed (next_under l.rule) l.p ++ drop l.p l.initial.table)

abbrev pub decreases-loop-p : goal.decreases-loop-p
decreases-loop-p l = length l.initial.table - l.p
