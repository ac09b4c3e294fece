-- Document 01, "A job and its units" and "Turned away": what working answers and leaves, for any kind of job: whatever it is lent, and whatever
-- one unit does.
-- Assumes nothing.
use Rattle.std.specs.Prelude.{List, [], ◌∷◌, ℕ, zero, suc}
use Rattle.board.specs.Answers.{Answer, gives, refuses, ◌then◌, refuse_unless}
use Rattle.job.specs.Jobs.{job_fits}
use Rattle.job.specs.declared.Stage.{Stage}
use Rattle.job.specs.declared.Job.{Job}

-- ---- what a working call answers that is no refusal: its end mark, and of finished its score
abbrev pub unfinished : Answer
unfinished = gives (0 ∷ [])

abbrev pub finished : ℕ → Answer
finished score = gives (1 ∷ score ∷ [])

abbrev pub infeasible : Answer
infeasible = gives (2 ∷ [])

-- the answer for a job in a stage
abbrev pub stage_says : Stage → Answer
stage_says (Stage.Filling above last live) = unfinished
stage_says (Stage.Choosing above last live) = unfinished
stage_says (Stage.Finished above last score) = finished score
stage_says Stage.Infeasible = infeasible

-- ---- a unit
-- a job with the table and the board that it is lent; T is what a table holds
pub record State (T : Type 0) : Type 0 where
  pub job : Job
  pub table : T
  pub board : List ℕ

-- what a unit comes to: the next state, or no row can be chosen after row 1
pub data Step (T : Type 0) : Type 0 where
  next : State T → Step T
  spoiled : Step T

-- ---- a service: jobs that are lent the same things by the same working call
pub record Service : Type 1 where
  -- what is lent to be read, as the givens; and the table, beside the board
  pub Given : Type 0
  pub Table : Type 0
  -- the checks of what is lent, after 7
  pub check : Job → Given → Table → List ℕ → Answer
  -- one unit; an ended job stays as it is
  pub unit : Given → State Table → Step Table

-- what a working call answers, and the job, table and board that it leaves
pub record Result (T : Type 0) : Type 0 where
  pub answer : Answer
  pub state : State T

module _ {T : Type 0} where
  -- where no row can be chosen the call ends with 9, and the job stands before that row
  abbrev pub on_step : Step T → State T → (State T → Result T) → Result T
  on_step (next s') s go = go s'
  on_step spoiled s go = record { answer = refuses 9 []; state = s }

module _ (S : Service) where
  -- a working call's checks: 7, then those of what is lent
  unfoldable pub work_check : Job → S.Given → S.Table → List ℕ → Answer
  work_check j given table board = refuse_unless (job_fits j) 7 then S.check j given table board

  -- units until the allowance is spent
  unfoldable pub works_on : S.Given → ℕ → State S.Table → Result S.Table
  works_on given zero s = record { answer = stage_says s.job.stage; state = s }
  works_on given (suc n) s = on_step (S.unit given s) s (works_on given n)

  -- turned away by its checks a call hands its job back unaltered and writes nothing
  abbrev pub work_by : Answer → S.Given → ℕ → State S.Table → Result S.Table
  work_by (gives values) given allowance s = works_on given allowance s
  work_by (refuses n values) given allowance s = record { answer = refuses n values; state = s }

  -- a working call
  unfoldable pub work_of : Job → S.Given → S.Table → List ℕ → ℕ → Result S.Table
  work_of j given table board allowance =
      work_by (work_check j given table board) given allowance (record { job = j; table = table; board = board })
