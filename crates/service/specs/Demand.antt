-- THE THIRD DEMAND, for any kind of job: document 01, "The third demand is a single claim about the whole list of calls".
-- Assumes nothing.
use Rattle.std.specs.Prelude.{◌≡◌, true, false, List, [], ◌∷◌, ℕ, ◌+◌, ◌≤◌, ◌<◌, min}
use Rattle.board.specs.Answers.{Answer, gives, refuses, passed}
use Rattle.job.specs.Jobs.{job_says, checkpoint_says, checkpoint_fits, job_of, pause_rule, resume_rule}
use Rattle.job.specs.Calls.{Pausable}
use Rattle.job_kind.specs.declared.Kind.{Kind}
use Rattle.job.specs.declared.Checkpoint.{Checkpoint}
use Rattle.service.specs.Service.{unfinished, infeasible, State, Service, Result, work_check, work_of}

-- ---- a list of calls
-- A working call lends what is read, a table and a board, and has an allowance. It and a pause get the job last handed out. A resumption names the kind that it
-- resumes as.
pub data Call (S : Service) : Type 0 where
  work : (given : S.Given) (table : S.Table) (board : List ℕ) (allowance : ℕ) → Call S
  pause : Call S
  resume : Kind → Checkpoint → Call S

module _ {T : Type 0} where
  -- A working call that passes its checks leaves what it leaves in the list's own table and board. One that is turned away hands its job back;
  -- the list's own table and board are as they were, whatever it lent.
  abbrev pub after_work : Answer → State T → State T → State T
  after_work (gives values) left s = left
  after_work (refuses n values) left s = record { job = left.job; table = s.table; board = s.board }

  -- a resumption that is turned away hands out no job
  abbrev pub after_resume : Answer → Kind → Checkpoint → State T → State T
  after_resume (gives values) kind t s = record { job = job_of kind t; table = s.table; board = s.board }
  after_resume (refuses n values) kind t s = s

-- an allowance that is turned away isn't summed
abbrev pub counted : Answer → ℕ → ℕ
counted (gives values) allowance = allowance
counted (refuses n values) allowance = 0

module _ (S : Service) where
  -- the job last handed out, and the list's own table and board, after a call
  abbrev pub after_call : Call S → State S.Table → State S.Table
  after_call (work given table board allowance) s =
      after_work (work_check S s.job given table board) (work_of S s.job given table board allowance).state s
  after_call pause s = s
  after_call (resume kind t) s = after_resume (resume_rule kind t) kind t s

  -- after a list of calls
  unfoldable pub run : List (Call S) → State S.Table → State S.Table
  run [] s = s
  run (c ∷ cs) s = run cs (after_call c s)

  -- P holds of each call and the state that it meets
  abbrev pub Each : (Call S → State S.Table → Type 0) → List (Call S) → State S.Table → Type 0
  Each P [] s = Unit {0}
  Each P (c ∷ cs) s = P c s × Each P cs (after_call c s)

  -- What the list may hold: a working call that passes lends to be read what was opened, and the list's own table and board as they then are; a
  -- resumption that passes gets the numbers that pausing this job gives. What is turned away may be anything.
  abbrev pub Fair : S.Given → Call S → State S.Table → Type 0
  Fair opened (work given table board allowance) s =
      work_check S s.job given table board ≡ passed → (given ≡ opened) × (table ≡ s.table) × (board ≡ s.board)
  Fair opened pause s = Unit {0}
  Fair opened (resume kind t) s = checkpoint_fits kind t ≡ true → pause_rule s.job ≡ gives (checkpoint_says t)

  abbrev pub allowed : Call S → State S.Table → ℕ
  allowed (work given table board allowance) s = counted (work_check S s.job given table board) allowance
  allowed pause s = 0
  allowed (resume kind t) s = 0

  -- the sum of the allowances that passed
  unfoldable pub summed : List (Call S) → State S.Table → ℕ
  summed [] s = 0
  summed (c ∷ cs) s = allowed c s + summed cs (after_call c s)

  -- ---- what each call answers, where the job's length is `long` and its last answer `final`
  -- A working call never answers 9. One that is turned away hands its job back and writes nothing of what it is lent. One that passes answers
  -- unfinished while the units done after it are below the length, and from there on always the last answer.
  pub record WorkAnswers (long : ℕ) (final : Answer) (check : Answer) (lent : State S.Table) (result : Result S.Table) : Type 0 where
    pub turned : (n : ℕ) (values : List ℕ) → check ≡ refuses n values → result ≡ record { answer = refuses n values; state = lent }
    pub sound : (values : List ℕ) → result.answer ≡ refuses 9 values → ⊥
    pub below : check ≡ passed → result.state.job.units < long → result.answer ≡ unfinished
    pub from : check ≡ passed → long ≤ result.state.job.units → result.answer ≡ final

  -- A resumption that passes hands this job out again; one that is turned away answers 7 and hands out none. Either leaves everything as it is.
  pub record ResumeAnswers (kind : Kind) (t : Checkpoint) (s : State S.Table) : Type 0 where
    pub passes : checkpoint_fits kind t ≡ true → resume_rule kind t ≡ gives (job_says s.job)
    pub turned : checkpoint_fits kind t ≡ false → resume_rule kind t ≡ refuses 7 []
    pub same : after_call (resume kind t) s ≡ s

  abbrev pub Answers : ℕ → Answer → Call S → State S.Table → Type 0
  Answers long final (work given table board allowance) s =
      WorkAnswers long final (work_check S s.job given table board) (record { job = s.job; table = table; board = board })
      (work_of S s.job given table board allowance)
  Answers long final pause s = Pausable s.job
  Answers long final (resume kind t) s = ResumeAnswers kind t s

-- ---- the claim
-- what an opened job of a kind is to come to
pub record Aim (T : Type 0) : Type 1 where
  -- the boards among which one is wanted
  pub Solution : List ℕ → Type 0
  -- the wanted board, and the last answer with it
  pub Wanted : List ℕ → Answer → Type 0
  -- a job's length where there is a board, and where there is none
  pub board_length : ℕ
  pub none_length : ℕ
  -- on the way to a board, this much is done: from the state before to the state now
  pub Progress : List ℕ → State T → State T → Type 0

module _ (S : Service) (A : Aim S.Table) where
  -- What a list of calls comes to, where the job's length is `long`, its last answer `final` and its last board `wanted`: the units done are the
  -- sum of the allowances, or the length where that is less; every call answers as it has to; the job can be paused; and this much is done.
  pub record Served (long : ℕ) (final : Answer) (wanted : List ℕ) (calls : List (Call S)) (s : State S.Table) : Type 0 where
    pub units : (run S calls s).job.units ≡ min long (summed S calls s)
    pub answers : Each S (Answers S long final) calls s
    pub pausable : Pausable (run S calls s).job
    pub progress : A.Progress wanted s (run S calls s)
    pub board : long ≤ summed S calls s → (run S calls s).board ≡ wanted

  -- Either there is a wanted board, and the job comes to it and to its answer; or there is no board, the job says so, and the lent board stays
  -- unwritten.
  pub data Outcome (calls : List (Call S)) (s : State S.Table) : Type 0 where
    solved : (best : List ℕ) (final : Answer) → A.Wanted best final → Served A.board_length final best calls s → Outcome calls s
    unsolvable : ((board : List ℕ) → A.Solution board → ⊥) → Served A.none_length infeasible s.board calls s → Outcome calls s

  -- of a job that was opened so, with any table and board: every list of calls that is fair
  abbrev pub Demand : S.Given → State S.Table → Type 0
  Demand opened s = (calls : List (Call S)) → Each S (Fair S opened) calls s → Outcome calls s
