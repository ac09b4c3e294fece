-- What is proved of rules and their tables.
-- Assumes nothing.
use Rattle.std.specs.Prelude.{◌≡◌, ◌↔◌, List, ℕ, ◌≤◌, length}
use Rattle.board.specs.Answers.{passed}
use Rattle.board.specs.Sums.{total}
use Rattle.rule.specs.Rule.{has_count, state_under, next_state, Allowed, rule_check, conway_rule, next_under, conway, Conway, unchanged, entry_of, generate_writes}
use Rattle.rule.specs.declared.Rule.{Rule}

-- the check turns away exactly the barred rules
abbrev pub RuleCheckRight : Type 0
RuleCheckRight = (rule : Rule) → rule_check rule ≡ passed ↔ Allowed rule

-- Conway's rule isn't barred, and it is Life's: for a cell and each number of live neighbours, and for each pattern
pub record ConwaysRule : Type 0 where
  pub allowed : Allowed conway_rule
  pub state : (centre live : ℕ) → centre ≤ 1 → state_under conway_rule centre live ≡ next_state centre live
  pub pattern : (p : ℕ) → next_under conway_rule p ≡ conway p

-- of a table that holds Life's rule, exactly 140 entries are live and exactly 284 patterns leave the centre unchanged
abbrev pub Counts : Type 0
Counts = (table : List ℕ) → Conway table → (total (entry_of table) 512 ≡ 140) × (total (unchanged (entry_of table)) 512 ≡ 284)

-- for Conway's rule the generator gives the constant table
abbrev pub GeneratorConstant : Type 0
GeneratorConstant =
    (constant table : List ℕ) → Conway constant → length constant ≡ 512 → length table ≡ 512 → generate_writes conway_rule table ≡ constant

-- a dead cell with no live neighbour stays dead exactly where 0 is no birth count, so under every rule that isn't barred
abbrev pub DeadStays : Type 0
DeadStays = (rule : Rule) → (next_under rule 0 ≡ 0 ↔ has_count rule.births 0 ≡ 0) × (Allowed rule → next_under rule 0 ≡ 0)
