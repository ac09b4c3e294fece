-- A job in working calls, for C: what is answered and left, for every input.
-- Assumes nothing.
use Rattle.std.specs.Prelude.{◌≡◌, cond, List, ℕ, zero, suc, eqb, get_or, Option, None, Some}
use Rattle.board.specs.Answers.{Answer, gives, refuses}
use Rattle.rule.specs.Rule.{conway_rule}
use Rattle.job_kind.specs.Kinds.{kind_at}
use Rattle.job.specs.Jobs.{open_rule, start}
use Rattle.job_kind.specs.declared.Kind.{Kind}
use Rattle.job.specs.declared.Job.{Job}
use Rattle.service.specs.Service.{unfinished, work_of}
use Rattle.third_demand.specs.Units.{State, grid}
use Rattle.solver.specs.Calls.{Result}
use Rattle.third_demand.specs.Lent.{lent_state}

-- ---- calls
-- so many working calls of an allowance, each on what the one before left; before the first the answer is "unfinished"
unfoldable pub calls_of : List ℕ → ℕ → ℕ → State → Result
calls_of givens allowance zero s = record { answer = unfinished; state = s }
calls_of givens allowance (suc n) s =
    let now = (calls_of givens allowance n s).state in
    work_of grid now.job givens now.table now.board allowance

-- ---- numbers for C
-- an answer as one number, by its end mark: the score of finished, which is at most 1,200, 2002 infeasible, 2001 unfinished; and 2003 any refusal
abbrev pub code_of : Answer → ℕ
code_of (gives values) = cond (eqb (get_or values 0 0) 1) (get_or values 1 0) (cond (eqb (get_or values 0 0) 2) 2002 2001)
code_of (refuses n values) = 2003

-- ---- the function
-- the answer, and the table and the board afterwards
pub record Left : Type 0 where
  pub answer : ℕ
  pub table : List ℕ
  pub board : List ℕ

abbrev pub left_by : Result → Left
left_by r = record { answer = code_of r.answer; table = r.state.table; board = r.state.board }

-- by what opening answers, and by the number of a kind: without a job nothing is written
module _ (w h : ℕ) (givens table board : List ℕ) (allowance calls : ℕ) where
  abbrev pub turned_away : Left
  turned_away = record { answer = 2003; table = table; board = board }

  abbrev pub left_opened : Answer → Kind → Left
  left_opened (gives values) kind = left_by (calls_of givens allowance calls (lent_state (start kind conway_rule w h) table board))
  left_opened (refuses n values) kind = turned_away

  abbrev pub left_as : Option Kind → Left
  left_as None = turned_away
  left_as (Some kind) = left_opened (open_rule kind conway_rule w h givens) kind

pub record WorksInCalls (kind w h : ℕ) (givens table board : List ℕ) (allowance calls r : ℕ) (table' board' : List ℕ) : Type 0 where
  pub is : record { answer = r; table = table'; board = board' } ≡ left_as w h givens table board allowance calls (kind_at kind)

-- the inner function: the calls on a job
pub record MakesCalls (j : Job) (givens table board : List ℕ) (allowance calls r : ℕ) (table' board' : List ℕ) : Type 0 where
  pub is : record { answer = r; table = table'; board = board' } ≡ left_by (calls_of givens allowance calls (lent_state j table board))
