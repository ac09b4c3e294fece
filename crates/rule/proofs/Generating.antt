-- The generator's table: it holds its rule, and for Conway's it is the constant table, since both hold Life's rule.
-- Assumes nothing.
use mathlib.Core.Path.{◌≡◌, ◌∙◌, sym}
use mathlib.Core.List.{List}
use Prim.Native.Nat.{ℕ}
use borrow.Author.Tests.{eq-eqb}
use lib.ListN.{length}
use Rattle.board.proofs.Lists.{get_d_listed, listed_of}
use Rattle.rule.specs.Rule.{Holds, Conway, conway_rule, next_under, table_of, generate_rule, generate_writes}
use Rattle.rule.specs.Theorems.{GeneratorConstant}
use Rattle.rule.specs.declared.Rule.{Rule}
use Rattle.rule.proofs.Rules.{conway_pattern, conway_allowed, rule_passes}

pub table_holds : (rule : Rule) → Holds (next_under rule) (table_of rule)
unfolding table_of
table_holds rule = record { entry = get_d_listed (next_under rule) 512 }

-- so does a table that holds Life's rule, where the rule is Conway's
pub conway_holds : (rule : Rule) {table : List ℕ} → rule.births ≡ 8 → rule.survivals ≡ 12 → Conway table → Holds (next_under rule) table
unfolding next_under
conway_holds rule b s t = record { entry = λ p l. rw (b, s) (t.entry p l ∙ sym (conway_pattern p)) }

pub generator_constant : GeneratorConstant
unfolding generate_writes generate_rule table_of
generator_constant constant table c l m =
    rw (rule_passes conway_rule conway_allowed, eq-eqb (length table) 512 m)
    (sym (listed_of (next_under conway_rule) constant 512 l (λ p k. c.entry p k ∙ sym (conway_pattern p))))
