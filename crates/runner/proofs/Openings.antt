-- What opening answers tells of solving: a refusal is solving's too, and a job that is handed out is run over its givens.
-- Assumes nothing.
use Rattle.std.specs.Prelude.{Err, None, Ok, Option, Result, Some}
use mathlib.Core.Path.{◌≡◌, refl, sym, ◌∙◌, ap}
use mathlib.Core.List.{List}
use Prim.Native.Nat.{ℕ}
use Rattle.board.specs.Answers.{Answer, gives, refuses, refusal_says, ◌then◌}
use Rattle.board.specs.declared.Refusal.{Refusal}
use Rattle.board.proofs.Answers.{refuses_none}
use Rattle.rule.specs.Rule.{grid_check}
use Rattle.rule.specs.declared.Rule.{Rule}
use Rattle.job.specs.Jobs.{start, job_says, open_rule, job_result_says}
use Rattle.job_kind.specs.Kinds.{halves_of, read_check}
use Rattle.job.proofs.Fits.{frame_passes, opening_shows}
use Rattle.job.specs.Calls.{Opens}
use Rattle.job_kind.specs.declared.Kind.{Kind}
use Rattle.job.specs.declared.Job.{Job}
use Rattle.runner.specs.Solving.{memory_check, solve_check, Solves, Ready, Runs}

-- what is refused before the last check is refused whatever comes last
refused_then : (a b : Answer) (values : List ℕ) {us : List ℕ} {n : ℕ} → refuses n us ≡ (a then b then gives values) → (rest : Answer) → (a then b then rest) ≡ refuses n us
refused_then (gives xs) (gives ys) values e rest = absurd (refuses_none e)
refused_then (gives xs) (refuses m ys) values e rest = sym e
refused_then (refuses m xs) b values e rest = sym e

module _ {kind : Kind} {rule : Rule} {w h : ℕ} {g : List ℕ} {o : Result Job Refusal} (O : Opens kind rule w h g o) where
  pub refused_solves : {r : Refusal} → o ≡ Err r → (t β : List ℕ) → Solves kind rule w h g t β (Err r) t β
  unfolding open_rule solve_check
  refused_solves {r} e t β =
      let c : solve_check kind rule w h g t β ≡ refusal_says r =
      refused_then (grid_check (halves_of kind) rule w h) (read_check kind rule w h g) (job_says (start kind rule w h)) (sym (ap job_result_says e) ∙ O.says) (memory_check kind w h t β) in record {
        comes = record {
          turned = λ n values q. (sym c ∙ q, refl, refl);
          ended = λ q. absurd (refuses_none (sym c ∙ q));
        };
      }

  module _ {j : Job} (e : o ≡ Ok j) where
    pub opened_ready : Ready j g
    opened_ready =
        let q = O.job j e in
        rw q (rw (e, q) at O)

    pub run_solves : {t β t' β' : List ℕ} {r : Result (Option ℕ) Refusal} → Runs j g t β r t' β' → Solves kind rule w h g t β r t' β'
    unfolding solve_check
    run_solves R =
        let z = opening_shows kind rule w h g (sym O.says ∙ ap job_result_says e) in
        record { comes = rw (frame_passes z.0, z.1) (rw (O.job j e) at R.comes) }
