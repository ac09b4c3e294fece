-- The numbers of a job go on fitting, for every shape: the shape's do, and the rest of a job stays as it is.
-- Assumes nothing.
use mathlib.Core.Path.{◌≡◌, refl, sym, ◌∙◌, ap, subst}
use mathlib.Core.Bool.{true}
use mathlib.Core.List.{List}
use Prim.Native.Nat.{ℕ, suc, ◌-◌}
use Rattle.elimination.specs.Task.{Task}
use Rattle.elimination.specs.Job.{Setup}
use Rattle.elimination.specs.Shape.{Shape, Numbers, numbers_fit, after_entry, after_row, after_none, GoesOn}
use Rattle.elimination.proofs.Shape.{numbers_go_on}
use Rattle.job.specs.Jobs.{live_of, mark_of, numbers_of, job_fits, checkpoint_fits, numbers_with}
use Rattle.job.specs.declared.Job.{Job}
use Rattle.job.proofs.Fits.{fits_numbers, numbers_of_lem, numbers_at}
use Rattle.service.specs.Units.{here, Numbered, NumbersContinue}

module _ (J : Setup ℕ (List ℕ)) (S : Shape) (Of : Job → Type 0) (N : Numbered J S Of) where
  module _ (j : Job) (O : Of j) (f : job_fits j ≡ true) where
    goes_on : mark_of j.stage ≡ 0 → GoesOn S (here j)
    goes_on m =
        numbers_go_on S N.shaped (here j) (subst (λ (X : Shape). numbers_fit X (here j) ≡ true) (N.is j O) (numbers_at j.kind (numbers_of j) (fits_numbers j f)).fit) m

    fits_with : (n : Numbers) → numbers_fit S n ≡ true → checkpoint_fits j.kind (numbers_with j n) ≡ true
    fits_with n e =
        numbers_of_lem j.kind (numbers_with j n) refl (numbers_at j.kind (numbers_of j) (fits_numbers j f)).frame (subst (λ (X : Shape). numbers_fit X n ≡ true) (sym (N.is j O)) e)

    planned : {o : Task} → J.plan j.units ≡ o → S.plan j.units ≡ o
    planned p = ap (λ (plan : ℕ → Task). plan j.units) N.plans ∙ p

pub continues : (J : Setup ℕ (List ℕ)) → NumbersContinue J
continues J S Of N = record {
  after_entry_lem = λ j O f m k source target i p.
      fits_with J S Of N j O f (after_entry (here j)) ((goes_on J S Of N j O f m).after_entry_lem k source target i (planned J S Of N j O f p));
  after_row_lem = λ j O f m r source p c l.
      let v = J.kind.add (J.height - suc r) c (live_of j.stage) in
      subst (λ (h : ℕ). checkpoint_fits j.kind (numbers_with j (after_row h r c v (here j))) ≡ true) N.rows
      (fits_with J S Of N j O f (after_row S.rows r c v (here j))
      ((goes_on J S Of N j O f m).after_row_lem r source (planned J S Of N j O f p) c v (rw N.codes l) (N.earns (J.height - suc r) c (live_of j.stage))));
  after_none_lem = λ j O f m source p.
      fits_with J S Of N j O f (after_none (here j)) ((goes_on J S Of N j O f m).after_none_lem source (planned J S Of N j O f p));
  same = N.same;
}
