-- A working call unit by unit, and what calls that are turned away and resumptions answer.
-- Assumes nothing.
use mathlib.Core.Path.{◌≡◌, refl, sym, ◌∙◌, ap, ap₂}
use mathlib.Core.Bool.{Bool, true, false}
use mathlib.Core.List.{List, []}
use Prim.Native.Nat.{ℕ, zero, suc}
use Rattle.board.specs.Answers.{Answer, gives, refuses, ◌then◌, refuse_unless, Checked}
use Rattle.board.proofs.Answers.{refuses_none, then_gives, unless_gives, checked_then, checked_unless}
use Rattle.job.specs.Jobs.{job_fits, checkpoint_fits, checkpoint_says, job_of, pause_rule, resume_rule}
use Rattle.job.specs.declared.Stage.{Stage}
use Rattle.job.specs.declared.Job.{Job}
use Rattle.job_kind.specs.declared.Kind.{Kind}
use Rattle.job.specs.declared.Checkpoint.{Checkpoint}
use Rattle.job.proofs.Fits.{pausable, paused_numbers, job_back, of_kind}
use Rattle.service.specs.Service.{stage_says, State, Step, next, spoiled, on_step, Service, works_on, work_check, work_by, work_of}
use Rattle.service.specs.Demand.{after_resume, WorkAnswers, ResumeAnswers}

-- a stage's answer is no refusal
pub never_refused : (s : Stage) {n : ℕ} {values : List ℕ} → stage_says s ≡ refuses n values → ⊥
never_refused (Stage.Filling a l n) e = refuses_none (sym e)
never_refused (Stage.Choosing above last so_far) e = refuses_none (sym e)
never_refused (Stage.Finished above last score) e = refuses_none (sym e)
never_refused Stage.Infeasible e = refuses_none (sym e)

-- ---- units
module _ (S : Service) (given : S.Given) where
  pub works_none : (s : State S.Table) → works_on S given 0 s ≡ record { answer = stage_says s.job.stage; state = s }
  unfolding works_on
  works_none s = refl

  pub works_next : (n : ℕ) (s s' : State S.Table) → S.unit given s ≡ next s' → works_on S given (suc n) s ≡ works_on S given n s'
  unfolding works_on
  works_next n s s' e = rw e

  pub works_spoiled : (n : ℕ) (s : State S.Table) → S.unit given s ≡ spoiled → works_on S given (suc n) s ≡ record { answer = refuses 9 []; state = s }
  unfolding works_on
  works_spoiled n s e = rw e

  -- whatever is left of the allowance, a job that a unit leaves as it is stays so
  pub works_still : (n : ℕ) (s : State S.Table) → S.unit given s ≡ next s → works_on S given n s ≡ record { answer = stage_says s.job.stage; state = s }
  works_still zero s e = works_none s
  works_still (suc n) s e = works_next n s s e ∙ works_still n s e

  -- they answer 9 alone
  pub works_refused : (n : ℕ) (s : State S.Table) {m : ℕ} {values : List ℕ} → (works_on S given n s).answer ≡ refuses m values → 9 ≡ m
  unfolding works_on
  works_refused zero s e = absurd (never_refused s.job.stage e)
  works_refused (suc n) s {m} {values} e = go (S.unit given s) (λ s' q. works_refused n s' q) e
    where
      go : (o : Step S.Table) → ((s' : State S.Table) → (works_on S given n s').answer ≡ refuses m values → 9 ≡ m)
          → (on_step o s (works_on S given n)).answer ≡ refuses m values → 9 ≡ m
      go (next s') ih q = ih s' q
      go spoiled ih q = cc

-- ---- checks
module _ (S : Service) (j : Job) (given : S.Given) (table : S.Table) (board : List ℕ) where
  pub work_checked : (n : ℕ) → (7 ≡ n → ⊥) → Checked n (S.check j given table board) → Checked n (work_check S j given table board)
  unfolding work_check
  work_checked n p c = checked_then n (refuse_unless (job_fits j) 7) (S.check j given table board) (checked_unless n (job_fits j) 7 p) c

  -- a job that pausing turns away is turned away here, with the same refusal
  pub pause_refused : {n : ℕ} {us : List ℕ} → refuses n us ≡ pause_rule j → refuses n us ≡ work_check S j given table board
  unfolding pause_rule work_check
  pause_refused {n} {us} e = go (job_fits j) refl
    where
      go : (b : Bool) → job_fits j ≡ b → refuses n us ≡ work_check S j given table board
      go true f = absurd (refuses_none (rw f at e))
      go false f = rw f (rw f at e)

  -- a call that answers another refusal than 9 is turned away by its checks
  pub work_refused : (n : ℕ) {m : ℕ} → (9 ≡ m → ⊥) → {values : List ℕ} → (work_of S j given table board n).answer ≡ refuses m values
      → work_check S j given table board ≡ refuses m values
  unfolding work_of
  work_refused n {m} f {values} e = go (work_check S j given table board) refl e
    where
      go : (a : Answer) → work_check S j given table board ≡ a → (work_by S a given n (record { job = j; table = table; board = board })).answer ≡ refuses m values
          → work_check S j given table board ≡ refuses m values
      go (gives us) p q = absurd (f (works_refused S given n _ q))
      go (refuses k us) p q = p ∙ q

  -- what has passed: 7, and the checks of what is lent
  pub work_passed : {values : List ℕ} → work_check S j given table board ≡ gives values → (job_fits j ≡ true) × (S.check j given table board ≡ gives values)
  unfolding work_check
  work_passed e =
      let a = then_gives (refuse_unless (job_fits j) 7) (S.check j given table board) e in
      (unless_gives (job_fits j) 7 a.0.1, a.1)

-- ---- calls that leave everything as it is
module _ (S : Service) where
  -- a working call that is turned away
  pub turned_answers : (long : ℕ) (final : Answer) (n : ℕ) (values : List ℕ) → (n ≡ 9 → ⊥) → (s : State S.Table)
      → WorkAnswers S long final (refuses n values) s (record { answer = refuses n values; state = s })
  turned_answers long final n values f s = record {
    turned = λ m us e. ap (λ (a : Answer). record { answer = a; state = s }) e;
    sound = λ us e. f (cc);
    below = λ e l. absurd (refuses_none e);
    from = λ e l. absurd (refuses_none e);
  }

  module _ (kind : Kind) (t : Checkpoint) (s : State S.Table) (f : job_fits s.job ≡ true) (fair : checkpoint_fits kind t ≡ true → pause_rule s.job ≡ gives (checkpoint_says t)) where
    pub resumed_same : after_resume (resume_rule kind t) kind t s ≡ s
    unfolding resume_rule
    resumed_same = go (checkpoint_fits kind t) refl
      where
        go : (b : Bool) → checkpoint_fits kind t ≡ b → after_resume (refuse_unless b 7 then gives (checkpoint_says t)) kind t s ≡ s
        go true e =
            let p = (paused_numbers s.job t (fair e)).1 in
            ap (λ (j : Job). record { job = j; table = s.table; board = s.board }) (ap₂ job_of (of_kind kind s.job (rw p at e)) p ∙ job_back s.job f)
        go false e = refl

    pub resume_answers : ResumeAnswers S kind t s
    unfolding resume_rule
    resume_answers = record {
      passes = λ e. rw e (sym (fair e) ∙ (pausable s.job f).pauses);
      turned = λ e. rw e;
      same = resumed_same;
    }
