-- Document 01, "Life's step", and Req 02: rules, Conway's by the number of live neighbours, the 512 patterns of 3 by 3 cells, and their tables.
-- Assumes nothing.
use Rattle.std.specs.Prelude.{◌≡◌, Bool, cond, ◌&&◌, List, ℕ, ◌+◌, ◌/◌, ◌%◌, ◌^◌, ◌<◌, eqb, leb, length, get_or}
use Rattle.board.specs.Answers.{Answer, ◌then◌, refuse_unless, after}
use Rattle.board.specs.Checks.{size_check}
use Rattle.board.specs.Lists.{listed}
use Rattle.rule.specs.declared.Rule.{Rule}

-- ---- rules
-- of counts as a number, count n adding 2^n: 1 where n is one of them
abbrev pub has_count : ℕ → ℕ → ℕ
has_count counts n = counts / 2 ^ n % 2

-- a cell's next state under a rule: a dead cell is live on a birth count, a live one on a survival count
abbrev pub state_under : Rule → ℕ → ℕ → ℕ
state_under rule centre live = cond (eqb centre 0) (has_count rule.births live) (has_count rule.survivals live)

-- a rule that isn't barred: 0 is no birth count, and no count is above 8
pub record Allowed (rule : Rule) : Type 0 where
  pub none_born_on_0 : has_count rule.births 0 ≡ 0
  pub births_to_8 : (n : ℕ) → 8 < n → has_count rule.births n ≡ 0
  pub survivals_to_8 : (n : ℕ) → 8 < n → has_count rule.survivals n ≡ 0

-- the same by the numbers: births even, and both at most 511
abbrev pub rule_fits : Rule → Bool
rule_fits rule = eqb (rule.births % 2) 0 && leb rule.births 511 && leb rule.survivals 511

-- 13, Rule: 0 is a birth count, or a count is above 8
unfoldable pub rule_check : Rule → Answer
rule_check rule = refuse_unless (rule_fits rule) 13

-- opening, stepping and judging begin with 1, 2, 13, the first by how rows are held
unfoldable pub grid_check : Bool → Rule → ℕ → ℕ → Answer
grid_check halves rule w h = size_check halves w h then rule_check rule

-- Conway's: births 3, survivals 2 and 3
abbrev pub conway_rule : Rule
conway_rule = record { births = 8; survivals = 12 }

-- Life's next state of a cell, by the number of live neighbours: none or one, dead; two, unchanged; three, live; four to eight, dead
abbrev pub next_state : ℕ → ℕ → ℕ
next_state centre live = cond (leb live 1) 0 (cond (eqb live 2) centre (cond (eqb live 3) 1 0))

-- ---- patterns
-- a pattern is a nine-digit binary number, top left worth 256, centre 16, bottom right 1: its digit that is worth v
abbrev pub digit : ℕ → ℕ → ℕ
digit pattern v = pattern / v % 2

-- the live neighbours of a pattern's centre
abbrev pub live_around : ℕ → ℕ
live_around p = digit p 256 + digit p 128 + digit p 64 + digit p 32 + digit p 8 + digit p 4 + digit p 2 + digit p 1

-- the next state of a pattern's centre: under a rule, and Life's
unfoldable pub next_under : Rule → ℕ → ℕ
next_under rule p = state_under rule (digit p 16) (live_around p)

unfoldable pub conway : ℕ → ℕ
conway p = next_state (digit p 16) (live_around p)

-- 1 where the pattern leaves its centre unchanged
abbrev pub unchanged : (ℕ → ℕ) → ℕ → ℕ
unchanged next p = cond (eqb (next p) (digit p 16)) 1 0

-- ---- tables
-- a next-state table, as a function of the pattern
abbrev pub entry_of : List ℕ → ℕ → ℕ
entry_of table p = get_or table p 0

-- a table of the 512 patterns holds the next states
pub record Holds (next : ℕ → ℕ) (table : List ℕ) : Type 0 where
  pub entry : (p : ℕ) → p < 512 → entry_of table p ≡ next p

-- it holds Life's rule
abbrev pub Conway : List ℕ → Type 0
Conway table = Holds conway table

-- a rule's table of 512 entries
unfoldable pub table_of : Rule → List ℕ
table_of rule = listed (next_under rule) 512

-- ---- the generator
-- filling a table of n entries: 13, then 6, a table of another length than 512
unfoldable pub generate_rule : Rule → ℕ → Answer
generate_rule rule n = rule_check rule then refuse_unless (eqb n 512) 6

-- what the table holds afterwards
unfoldable pub generate_writes : Rule → List ℕ → List ℕ
generate_writes rule table = after (generate_rule rule (length table)) (table_of rule) table
