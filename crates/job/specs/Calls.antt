-- Document 01, "A job and its units" and "Turned away": what opening, pausing and resuming answer and hand out, for every input.
-- Assumes nothing.
use Rattle.std.specs.Prelude.{◌≡◌, true, List, [], ℕ, Result, Ok}
use Rattle.board.specs.Answers.{gives, refuses}
use Rattle.board.specs.declared.Refusal.{Refusal}
use Rattle.rule.specs.declared.Rule.{Rule}
use Rattle.job.specs.Jobs.{numbers_of, job_says, job_fits, job_of, start, open_rule, pause_rule, resume_rule, job_result_says, paused_says}
use Rattle.job_kind.specs.declared.Kind.{Kind}
use Rattle.job.specs.declared.Job.{Job}
use Rattle.job.specs.declared.Checkpoint.{Checkpoint}

-- opening hands out the job at unit 0
pub record Opens (kind : Kind) (rule : Rule) (w h : ℕ) (givens : List ℕ) (r : Result Job Refusal) : Type 0 where
  pub says : job_result_says r ≡ open_rule kind rule w h givens
  pub job : (j : Job) → r ≡ Ok j → j ≡ start kind rule w h

-- pausing gives the ten numbers
pub record Pauses (j : Job) (r : Result Checkpoint Refusal) : Type 0 where
  pub says : paused_says r ≡ pause_rule j

-- resuming as a kind hands out the job of ten numbers
pub record Resumes (kind : Kind) (t : Checkpoint) (r : Result Job Refusal) : Type 0 where
  pub says : job_result_says r ≡ resume_rule kind t
  pub job : (j : Job) → r ≡ Ok j → j ≡ job_of kind t

-- THE JOB RESUMED EQUALS THE ONE PAUSED: of what the two calls hand back, for every job that pausing takes. Resumed as another kind its numbers are 7.
unfoldable pub RoundTrip : Type 0
RoundTrip =
    (j : Job) (p : Result Checkpoint Refusal) (t : Checkpoint) (kind : Kind) (r : Result Job Refusal) → Pauses j p → p ≡ Ok t → Resumes kind t r
    → (kind ≡ j.kind → r ≡ Ok j) × ((kind ≡ j.kind → ⊥) → job_result_says r ≡ refuses 7 [])

-- Check 7 passes on a job, pausing gives its numbers, and resuming them gives the job back.
pub record Pausable (j : Job) : Type 0 where
  pub taken : job_fits j ≡ true
  pub pauses : pause_rule j ≡ gives (job_says j)
  pub resumes : resume_rule j.kind (numbers_of j) ≡ gives (job_says j)
  pub back : job_of j.kind (numbers_of j) ≡ j
