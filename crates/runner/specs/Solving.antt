-- A job run to its end in one call: what it answers and leaves, for every input.
-- Assumes nothing.
use Rattle.std.specs.Prelude.{◌≡◌, Bool, true, false, List, ℕ, Err, None, Ok, Option, Result, Some}
use Rattle.board.specs.Answers.{Answer, refuses, passed, refusal_says, ◌then◌}
use Rattle.board.specs.Checks.{length_check, table_size, table_check}
use Rattle.rule.specs.Rule.{grid_check}
use Rattle.rule.specs.declared.Rule.{Rule}
use Rattle.third_demand.specs.Grid.{SolutionBy, OptimalBy, count_by}
use Rattle.job_kind.specs.Kinds.{halves_of, has_target, refills, kind_digits, layers_of, board_length, none_length, read_check}
use Rattle.job.specs.Calls.{Opens}
use Rattle.service.specs.Service.{finished, infeasible}
use Rattle.third_demand.specs.Demand.{FilledTo, TwoLayersTo}
use Rattle.job_kind.specs.declared.Kind.{Kind}
use Rattle.job.specs.declared.Job.{Job}
use Rattle.board.specs.declared.Refusal.{Refusal}

-- the paper's number and values of each answer: those of a job that ended
abbrev pub solved_says : Result (Option ℕ) Refusal → Answer
solved_says (Ok (Some score)) = finished score
solved_says (Ok None) = infeasible
solved_says (Err r) = refusal_says r

-- the checks of the memory, as working makes them: 5, 6
unfoldable pub memory_check : Kind → ℕ → ℕ → List ℕ → List ℕ → Answer
memory_check kind w h table board = length_check 5 w h board then table_check (kind_digits kind w) (layers_of kind h) table

-- its checks: 1, 2, 13, 3, 4, 14, 15 as opening, with a target 1, 2, 13, 3, 4; then those
unfoldable pub solve_check : Kind → Rule → ℕ → ℕ → List ℕ → List ℕ → List ℕ → Answer
solve_check kind rule w h givens table board = grid_check (halves_of kind) rule w h then read_check kind rule w h givens then memory_check kind w h table board

-- What the table holds in the end: of two layers, which are filled again before each row, what the units of the job's length leave in the halves; of a job
-- that fills the whole table every entry, right. Every place that no unit wrote holds what it held.
abbrev pub TableEnds : Bool → Kind → Rule → ℕ → ℕ → List ℕ → ℕ → List ℕ → List ℕ → Type 0
TableEnds true kind rule w h givens long table table' = TwoLayersTo rule w h givens long table table'
TableEnds false kind rule w h givens long table table' = FilledTo kind rule w h givens (table_size (kind_digits kind w) h) table table'

-- the board that is left is the wanted one, of a mirror job the best mirror board, with a target the one with the fewest live cells that steps to it, and
-- the answer what it counts; or there is no such board, the answer says so, and the board is unwritten
pub data Ends (kind : Kind) (rule : Rule) (w h : ℕ) (givens table board : List ℕ) (says : Answer) (table' board' : List ℕ) : Type 0 where
  best : OptimalBy kind rule w h givens board' → says ≡ finished (count_by (has_target kind) w h givens board') → TableEnds (refills kind) kind rule w h givens (board_length kind w h) table table'
      → Ends kind rule w h givens table board says table' board'
  none : ((other : List ℕ) → SolutionBy kind rule w h givens other → ⊥) → says ≡ infeasible → board' ≡ board → TableEnds (refills kind) kind rule w h givens (none_length kind w h) table table'
      → Ends kind rule w h givens table board says table' board'

-- Turned away, the call answers its refusal and writes nothing. Otherwise it comes to the job's end.
pub record SolvesTo (check : Answer) (kind : Kind) (rule : Rule) (w h : ℕ) (givens table board : List ℕ) (says : Answer) (table' board' : List ℕ) : Type 0 where
  pub turned : (n : ℕ) (values : List ℕ) → check ≡ refuses n values → (says ≡ refuses n values) × (table' ≡ table) × (board' ≡ board)
  pub ended : check ≡ passed → Ends kind rule w h givens table board says table' board'

pub record Solves (kind : Kind) (rule : Rule) (w h : ℕ) (givens table board : List ℕ) (r : Result (Option ℕ) Refusal) (table' board' : List ℕ) : Type 0 where
  pub comes : SolvesTo (solve_check kind rule w h givens table board) kind rule w h givens table board (solved_says r) table' board'

-- ---- the inner function
-- a job that opening hands out for these givens
abbrev pub Ready : Job → List ℕ → Type 0
Ready j givens = Opens j.kind j.rule j.width j.height givens (Ok j)

pub record Runs (j : Job) (givens table board : List ℕ) (r : Result (Option ℕ) Refusal) (table' board' : List ℕ) : Type 0 where
  pub comes : SolvesTo (memory_check j.kind j.width j.height table board) j.kind j.rule j.width j.height givens table board (solved_says r) table' board'
