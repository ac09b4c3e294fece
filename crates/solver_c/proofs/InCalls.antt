-- Calls one by one, and what opening answers.
-- Assumes nothing.
use mathlib.Core.Path.{◌≡◌, refl, sym, ◌∙◌, ap}
use mathlib.Core.List.{List}
use Rattle.std.specs.Prelude as Std
use Rattle.std.specs.Prelude.{None, Some, Err, Ok}
use Prim.Native.Nat.{ℕ, ◌+◌}
use native.Mathlib.Numerals.{add-one}
use Rattle.board.specs.declared.Refusal.{Refusal}
use Rattle.rule.specs.Rule.{conway_rule}
use Rattle.rule.specs.declared.Rule.{Rule}
use Rattle.job.specs.Jobs.{start, open_rule, job_result_says}
use Rattle.job.specs.Calls.{Opens}
use Rattle.job_kind.specs.declared.Kind.{Kind}
use Rattle.job.specs.declared.Job.{Job}
use Rattle.service.specs.Service.{unfinished, work_of}
use Rattle.third_demand.specs.Units.{State, grid}
use Rattle.solver.specs.Calls.{Result}
use Rattle.third_demand.specs.Lent.{lent_state}
use Rattle.job_kind.specs.Kinds.{kind_at}
use Rattle.solver_c.specs.InCalls.{calls_of, code_of, WorksInCalls, MakesCalls}

-- ---- calls
module _ (g : List ℕ) (allowance : ℕ) (s : State) where
  abbrev call_on : Result → Result
  call_on r = work_of grid r.state.job g r.state.table r.state.board allowance

  pub calls_none : record { answer = unfinished; state = s } ≡ calls_of g allowance 0 s
  unfolding calls_of
  calls_none = refl

  -- one call more, on what the others came to
  pub calls_more : (n : ℕ) {now later : Result} → now ≡ calls_of g allowance n s → later ≡ call_on now → later ≡ calls_of g allowance (n + 1) s
  unfolding calls_of
  calls_more n e is = rw (add-one n) (is ∙ ap call_on e)

-- the number and the memory that all of them leave
pub calls_made : {j : Job} {g t β : List ℕ} {allowance n calls r : ℕ} {now : Result} → now ≡ calls_of g allowance n (lent_state j t β) → n ≡ calls → r ≡ code_of now.answer
    → MakesCalls j g t β allowance calls r now.state.table now.state.board
calls_made is all e = record { is = rw (e, is, all) }

-- ---- the number of no kind, and of a kind by what opening answers
pub no_kind : {n w h : ℕ} {g : List ℕ} {allowance calls : ℕ} → kind_at n ≡ None → (t β : List ℕ) → WorksInCalls n w h g t β allowance calls 2003 t β
no_kind e t β = record { is = rw e }

module _ {kind : Kind} {rule : Rule} {w h : ℕ} {g : List ℕ} {o : Std.Result Job Refusal} (O : Opens kind rule w h g o) (ruled : rule ≡ conway_rule) where
  answered : open_rule kind conway_rule w h g ≡ job_result_says o
  answered = rw (← ruled) (sym O.says)

  module _ {n allowance calls : ℕ} (e : kind_at n ≡ Some kind) where
    pub opening_refuses : {r : Refusal} → o ≡ Err r → (t β : List ℕ) → WorksInCalls n w h g t β allowance calls 2003 t β
    opening_refuses q t β = record { is = rw (e, answered, q) }

    pub opening_takes : {j : Job} → o ≡ Ok j → {t β t' β' : List ℕ} {r : ℕ} → MakesCalls j g t β allowance calls r t' β'
        → WorksInCalls n w h g t β allowance calls r t' β'
    opening_takes {j} q C = record { is = rw (e, answered, q) (rw (O.job j q ∙ ap (λ (x : Rule). start kind x w h) ruled) at C.is) }
