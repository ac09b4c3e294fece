-- A list of calls does the machine's units, and each call answers as it has to; over memory that the checks turn away nothing happens.
-- Assumes nothing.
use mathlib.Core.Path.{◌≡◌, refl, sym, ◌∙◌, ap, ap₂, subst}
use mathlib.Core.Bool.{true, false}
use mathlib.Core.List.{List, [], ◌∷◌}
use Prim.Native.Nat.{ℕ, zero, suc, ◌+◌, min}
use native.Mathlib.Nat.{add-zero}
use native.Mathlib.Omega.{arith}
use borrow.Author.Tests.{leb-false, lt-leb}
use lib.Dec.{leb}
use Rattle.board.specs.Answers.{Answer, gives, refuses, passed, Checked}
use Rattle.board.proofs.Answers.{refuses_none}
use Rattle.elimination.specs.Machine.{Machine, advance}
use Rattle.elimination.proofs.Machine.{advance_suc, after_units}
use Rattle.job.specs.Jobs.{job_fits}
use Rattle.job.proofs.Fits.{pausable}
use Rattle.service.specs.Service.{stage_says, State, Step, next, spoiled, Service, Result, on_step, works_on, work_by, work_of, work_check}
use Rattle.service.specs.Demand.{Call, work, pause, resume, after_work, after_call, run, Each, Fair, counted, allowed, summed, WorkAnswers, Answers, Aim}
use Rattle.service.specs.Laws.{ChecksSound, Follows, Course}
use Rattle.service.proofs.Calls.{never_refused, work_checked, work_passed, turned_answers, resumed_same, resume_answers}

-- ---- a list of calls over a machine that lasts `long` units and then says `final`
module _ (S : Service) (A : Aim S.Table) (checks : ChecksSound S) {given : S.Given} {W : Type 0} {M : Machine W} (F : Follows S given M)
    (long : ℕ) (final : Answer) (wanted : List ℕ) (s₀ : State S.Table) (C : Course S A F long final wanted s₀) where
  -- the machine after m units
  abbrev after : ℕ → W
  after m = advance M m (F.view s₀)

  -- the state after m units
  pub record Reached (m : ℕ) (s : State S.Table) : Type 0 where
    pub here : F.Here s
    pub is : F.view s ≡ after m

  pub reached_fits : {m : ℕ} {s : State S.Table} → Reached m s → job_fits s.job ≡ true
  reached_fits {s} R = F.fits s R.here

  pub reached_units : {m : ℕ} {s : State S.Table} → Reached m s → s.job.units ≡ min m long
  reached_units {m} {s} R = sym (F.units s) ∙ ap M.done R.is ∙ (after_units M C.lasts m).done

  -- a call that passes
  record Goes (m : ℕ) (r : Result S.Table) : Type 0 where
    reached : Reached m r.state
    says : r.answer ≡ stage_says r.state.job.stage

  goes : (n m : ℕ) (s : State S.Table) → Reached m s → Goes (m + n) (works_on S given n s)
  unfolding works_on
  goes zero m s R = rw (add-zero m) (record { reached = R; says = refl })
  goes (suc n) m s R = go (S.unit given s) refl (goes n (suc m))
    where
      go : (o : Step S.Table) → S.unit given s ≡ o → ((s' : State S.Table) → Reached (suc m) s' → Goes (suc m + n) (works_on S given n s'))
          → Goes (m + suc n) (on_step o s (works_on S given n))
      go (next s') l ih =
          let e : m + suc n ≡ suc m + n = omega arith in
          let p = F.moves s s' R.here l in
          rw e (ih s' (record { here = p.0; is = p.1 ∙ ap M.unit R.is ∙ sym (advance_suc M m (F.view s₀)) }))
      go spoiled l ih =
          let p = F.stands s R.here l in
          let b : leb long m ≡ false = sym (after_units M C.lasts m).ended ∙ ap M.ended (sym R.is) ∙ p.1 in
          let q = (after_units M C.lasts m).moves (leb-false long m b) in
          let e : M.unit (after m) ≡ after m = ap M.unit (sym R.is) ∙ p.0 ∙ R.is in
          absurd (omega (arith, q, ap M.done e))

  goes_answers : (m : ℕ) (values : List ℕ) (lent : State S.Table) (r : Result S.Table) → Goes m r → WorkAnswers S long final (gives values) lent r
  goes_answers m values lent r G =
      let u = reached_units G.reached in record {
        turned = λ n us e. absurd (refuses_none (sym e));
        sound = λ us e. never_refused r.state.job.stage (sym G.says ∙ e);
        below = λ c l. G.says ∙ F.running r.state (ap M.ended G.reached.is ∙ (after_units M C.lasts m).ended ∙ lt-leb long m (omega arith));
        from = λ c l. G.says ∙ C.says r.state (G.reached.is ∙ (after_units M C.lasts m).stays (omega arith));
      }

  -- a working call, by what its checks say
  module _ (g : S.Given) (t : S.Table) (β : List ℕ) (n m : ℕ) (s : State S.Table) (R : Reached m s) where
    abbrev lent : State S.Table
    lent = record { job = s.job; table = t; board = β }

    record WorkCalled (a : Answer) : Type 0 where
      reached : Reached (m + counted a n) (after_work a (work_by S a g n lent).state s)
      answers : WorkAnswers S long final a lent (work_by S a g n lent)

    work_called : (a : Answer) → (a ≡ passed → (g ≡ given) × (t ≡ s.table) × (β ≡ s.board)) → Checked 9 a → WorkCalled a
    work_called (gives values) f c =
        let same = f (ap gives c) in
        let e : works_on S g n lent ≡ works_on S given n s =
        ap (λ (x : S.Given). works_on S x n lent) same.0
        ∙ ap₂ (λ (x : S.Table) (y : List ℕ). works_on S given n (record { job = s.job; table = x; board = y })) same.1 same.2 in
        let G = subst (Goes (m + n)) (sym e) (goes n m s R) in
        record { reached = G.reached; answers = goes_answers (m + n) values lent (works_on S g n lent) G }
    work_called (refuses k values) f c = record { reached = rw (add-zero m) R; answers = turned_answers S long final k values c lent }

  record Called (m : ℕ) (c : Call S) (s : State S.Table) : Type 0 where
    reached : Reached (m + allowed S c s) (after_call S c s)
    answers : Answers S long final c s

  called : (c : Call S) (m : ℕ) (s : State S.Table) → Reached m s → Fair S given c s → Called m c s
  unfolding work_of
  called (work g t β n) m s R f =
      let P = work_called g t β n m s R (work_check S s.job g t β) f (work_checked S s.job g t β 9 (λ e. omega arith) (checks s.job g t β)) in
      record { reached = P.reached; answers = P.answers }
  called pause m s R f = record { reached = rw (add-zero m) R; answers = pausable s.job (reached_fits R) }
  called (resume kind t) m s R f =
      let e = resumed_same S kind t s (reached_fits R) f in
      record { reached = rw (add-zero m, e) R; answers = resume_answers S kind t s (reached_fits R) f }

  pub record Listed (m : ℕ) (cs : List (Call S)) (s : State S.Table) : Type 0 where
    pub reached : Reached (m + summed S cs s) (run S cs s)
    pub answers : Each S (Answers S long final) cs s

  -- the list does as many units as its allowances sum to
  pub listed : (cs : List (Call S)) (m : ℕ) (s : State S.Table) → Reached m s → Each S (Fair S given) cs s → Listed m cs s
  unfolding run summed
  listed [] m s R f = record { reached = rw (add-zero m) R; answers = tt }
  listed (c ∷ cs) m s R f =
      let P = called c m s R f.0 in
      let L = listed cs (m + allowed S c s) (after_call S c s) P.reached f.1 in
      let e : m + (allowed S c s + summed S cs (after_call S c s)) ≡ m + allowed S c s + summed S cs (after_call S c s) = omega arith in
      record { reached = rw e L.reached; answers = (P.answers, L.answers) }

-- ---- a list of calls over memory that the checks turn away: nothing happens
module _ (S : Service) (checks : ChecksSound S) (given : S.Given) (s : State S.Table) (fits : job_fits s.job ≡ true)
    (shut : S.check s.job given s.table s.board ≡ passed → ⊥) (long : ℕ) (final : Answer) where
  record Waits (c : Call S) : Type 0 where
    state : after_call S c s ≡ s
    sum : allowed S c s ≡ 0
    answers : Answers S long final c s

  module _ (g : S.Given) (t : S.Table) (β : List ℕ) (n : ℕ) where
    abbrev brought : State S.Table
    brought = record { job = s.job; table = t; board = β }

    record WorkWaits (a : Answer) : Type 0 where
      state : after_work a (work_by S a g n brought).state s ≡ s
      sum : counted a n ≡ 0
      answers : WorkAnswers S long final a brought (work_by S a g n brought)

    work_waits : (a : Answer) → work_check S s.job g t β ≡ a → (a ≡ passed → (g ≡ given) × (t ≡ s.table) × (β ≡ s.board)) → Checked 9 a → WorkWaits a
    work_waits (gives values) e f c =
        let same = f (ap gives c) in
        let p = (work_passed S s.job g t β (e ∙ ap gives c)).1 in
        absurd (shut (
        ap (λ (x : S.Given). S.check s.job x s.table s.board) (sym same.0)
        ∙ ap₂ (λ (x : S.Table) (y : List ℕ). S.check s.job g x y) (sym same.1) (sym same.2) ∙ p))
    work_waits (refuses k values) e f c = record { state = refl; sum = refl; answers = turned_answers S long final k values c brought }

  waits : (c : Call S) → Fair S given c s → Waits c
  unfolding work_of
  waits (work g t β n) f =
      let P = work_waits g t β n (work_check S s.job g t β) refl f (work_checked S s.job g t β 9 (λ e. omega arith) (checks s.job g t β)) in
      record { state = P.state; sum = P.sum; answers = P.answers }
  waits pause f = record { state = refl; sum = refl; answers = pausable s.job fits }
  waits (resume kind t) f =
      let e = resumed_same S kind t s fits f in
      record { state = e; sum = refl; answers = resume_answers S kind t s fits f }

  pub record Idle (cs : List (Call S)) : Type 0 where
    pub state : run S cs s ≡ s
    pub sum : summed S cs s ≡ 0
    pub answers : Each S (Answers S long final) cs s

  pub idle : (cs : List (Call S)) → Each S (Fair S given) cs s → Idle cs
  unfolding run summed
  idle [] f = record { state = refl; sum = refl; answers = tt }
  idle (c ∷ cs) f =
      let P = waits c f.0 in
      let I = idle cs (subst (λ (x : State S.Table). Each S (Fair S given) cs x) P.state f.1) in record {
        state = ap (run S cs) P.state ∙ I.state;
        sum = ap₂ (λ (x y : ℕ). x + y) P.sum (ap (summed S cs) P.state ∙ I.sum);
        answers = (P.answers, subst (λ (x : State S.Table). Each S (Answers S long final) cs x) (sym P.state) I.answers);
      }
