-- Req 07, of what calls answer: a grid with no board and one with a board, each with its turned grid, by one working call. So there are calls that
-- `SameAnswer` speaks of.
-- Assumes nothing.
use Rattle.std.specs.Prelude.{false, List, [], ◌∷◌, ℕ, ◌*◌, replicate}
use Rattle.board.specs.Checks.{table_size}
use Rattle.rule.specs.Rule.{conway_rule}
use Rattle.job.specs.Jobs.{start}
use Rattle.job_kind.specs.Kinds.{layers_of}
use Rattle.job_kind.specs.declared.Kind.{Kind}
use Rattle.service.specs.Service.{finished, infeasible}
use Rattle.service.specs.Demand.{Call, work}
use Rattle.third_demand.specs.Units.{State, grid}
use Rattle.board.specs.Answers.{Answer}
use Rattle.turns.specs.Turn.{once, turned_bytes}
use Rattle.turns.specs.Examples.{turn_of}
use Rattle.turned_grids.specs.Calls.{Said, FairCalls}

-- an opened job, over a table of 7s and a board of 9s; and one working call with more allowance than it has units
abbrev pub opened : Kind → ℕ → ℕ → State
opened kind w h = record { job = start kind conway_rule w h; table = replicate (table_size w (layers_of kind h)) 7; board = replicate (w * h) 9 }

abbrev pub one_call : Kind → ℕ → ℕ → List ℕ → List (Call grid)
one_call kind w h givens = work givens (opened kind w h).table (opened kind w h).board 200 ∷ []

-- the call is fair, passes its checks, and answers so
pub record CallAnswers (kind : Kind) (w h : ℕ) (givens : List ℕ) (a : Answer) : Type 0 where
  pub fair : FairCalls kind conway_rule w h givens (one_call kind w h givens) (opened kind w h)
  pub said : Said a (one_call kind w h givens) (opened kind w h)

pub record Examples : Type 0 where
  -- width 2, height 1, the first cell live: none. A quarter turn, by two layers: none
  pub no_board_lem : CallAnswers Kind.Ordinary 2 1 (2 ∷ 0 ∷ []) infeasible
  pub no_board_turned : CallAnswers Kind.TwoLayers 1 2 (turned_bytes (turn_of false once) 2 1 (2 ∷ 0 ∷ [])) infeasible
  -- 2 by 2, the first cell live: score 3
  pub board : CallAnswers Kind.TwoLayers 2 2 (2 ∷ 0 ∷ 0 ∷ 0 ∷ []) (finished 3)
  pub board_turned : CallAnswers Kind.Ordinary 2 2 (turned_bytes (turn_of false once) 2 2 (2 ∷ 0 ∷ 0 ∷ 0 ∷ [])) (finished 3)
