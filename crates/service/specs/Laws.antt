-- What a kind of job has to show, and the theorem that the third demand then holds for it.
-- Assumes nothing.
use Rattle.std.specs.Prelude.{◌≡◌, true, false, List, ℕ, ◌≤◌, ◌<◌}
use Rattle.board.specs.Answers.{Answer, passed, Checked}
use Rattle.elimination.specs.Machine.{Machine, advance, Lasts}
use Rattle.job.specs.Jobs.{job_fits}
use Rattle.job.specs.declared.Job.{Job}
use Rattle.service.specs.Service.{unfinished, infeasible, stage_says, State, next, spoiled, Service}
use Rattle.service.specs.Demand.{Aim, Demand}

-- the checks of a service never answer 9
abbrev pub ChecksSound : Service → Type 0
ChecksSound S = (j : Job) (given : S.Given) (table : S.Table) (board : List ℕ) → Checked 9 (S.check j given table board)

-- A job's units are a machine's units: seen as one of the machine's states, while it is where it may be.
pub record Follows (S : Service) (given : S.Given) {W : Type 0} (M : Machine W) : Type 1 where
  pub view : State S.Table → W
  pub Here : State S.Table → Type 0
  -- such a job fits, counts the machine's units, and says "unfinished" while the machine runs
  pub fits : (s : State S.Table) → Here s → job_fits s.job ≡ true
  pub units : (s : State S.Table) → M.done (view s) ≡ s.job.units
  pub running : (s : State S.Table) → M.ended (view s) ≡ false → stage_says s.job.stage ≡ unfinished
  -- a unit that is done, and one that can't be
  pub moves : (s s' : State S.Table) → Here s → S.unit given s ≡ next s' → Here s' × (view s' ≡ M.unit (view s))
  pub stands : (s : State S.Table) → Here s → S.unit given s ≡ spoiled → (M.unit (view s) ≡ view s) × (M.ended (view s) ≡ false)

module _ (S : Service) (A : Aim S.Table) {given : S.Given} {W : Type 0} {M : Machine W} (F : Follows S given M) where
  -- from s the machine lasts `long` units; the job then says `final` and its board is `wanted`; and on the way so much is done
  pub record Course (long : ℕ) (final : Answer) (wanted : List ℕ) (s : State S.Table) : Type 0 where
    pub lasts : Lasts M (F.view s) long
    pub says : (e : State S.Table) → F.view e ≡ advance M long (F.view s) → stage_says e.job.stage ≡ final
    pub progress : (m : ℕ) → m ≤ long → (e : State S.Table) → F.Here e → F.view e ≡ advance M m (F.view s) → A.Progress wanted s e
    pub board : (e : State S.Table) → F.view e ≡ advance M long (F.view s) → e.board ≡ wanted

  -- The opened job comes to a wanted board, or to none where there is none, over memory that the checks take. Over any other every working call
  -- is turned away, and nothing is done.
  pub data Comes (s : State S.Table) : Type 0 where
    to_board : (best : List ℕ) (final : Answer) → A.Wanted best final
        → (S.check s.job given s.table s.board ≡ passed → Course A.board_length final best s) → Comes s
    to_none : ((board : List ℕ) → A.Solution board → ⊥)
        → (S.check s.job given s.table s.board ≡ passed → Course A.none_length infeasible s.board s) → Comes s

-- the laws of a job that was opened so
pub record Lawful (S : Service) (A : Aim S.Table) (given : S.Given) (s : State S.Table) : Type 1 where
  pub W : Type 0
  pub M : Machine W
  pub follows : Follows S given M
  pub checks : ChecksSound S
  -- the job is at unit 0, where nothing is done, and its lengths aren't 0
  pub here : follows.Here s
  pub fresh : s.job.units ≡ 0
  pub begins : (wanted : List ℕ) → A.Progress wanted s s
  pub long : 0 < A.board_length
  pub long_none : 0 < A.none_length
  pub comes : Comes S A follows s

-- THE THEOREM of a kind of job: what is lawful meets the third demand
abbrev pub MeetsDemand : Type 1
MeetsDemand = (S : Service) (A : Aim S.Table) (given : S.Given) (s : State S.Table) → Lawful S A given s → Demand S A given s
