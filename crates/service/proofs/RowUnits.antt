-- What a unit does to the board, by the stage of the job.
-- Assumes nothing.
use mathlib.Core.Path.{◌≡◌, refl, sym, ◌∙◌, ap, subst}
use mathlib.Core.Bool.{Bool, true, false, cond, not, true≢false}
use mathlib.Core.List.{List, []}
use mathlib.Core.Logic.{◌⊎◌, inl, inr}
use Prim.Native.Nat.{ℕ, zero, suc, ◌*◌, ◌-◌, ◌≤◌, ◌<◌}
use native.Mathlib.Nat.{mul-le-mul_right}
use native.Mathlib.Omega.{arith}
use lib.Dec.{ltb}
use lib.ListN.{length}
use Rattle.board.specs.Answers.{Answer, passed}
use Rattle.elimination.specs.Candidates.{Choice, nothing, chosen}
use Rattle.elimination.specs.Kind.{choose}
use Rattle.elimination.specs.Table.{reads}
use Rattle.elimination.specs.Task.{Task, fill, row, is_fill}
use Rattle.elimination.specs.Job.{Setup}
use Rattle.elimination.specs.Shape.{Shape, Numbers, after_row, rows_chosen}
use Rattle.elimination.proofs.Candidates.{RowBelow}
use Rattle.elimination.proofs.Kind.{choose_below}
use Rattle.elimination.proofs.Shape.{Units, runs, ends, fails, chosen_few}
use Rattle.job_kind.specs.Kinds.{shape_of}
use Rattle.job.specs.Jobs.{above_of, last_of, live_of, mark_of, numbers_of, stage_fits, stage_of, job_fits, numbers_with, job_with}
use Rattle.job.specs.declared.Stage.{Stage}
use Rattle.job.specs.declared.Job.{Job}
use Rattle.job.specs.declared.Checkpoint.{Checkpoint}
use Rattle.job.proofs.Fits.{fits_numbers, fits_stage, numbers_at}
use Rattle.job.proofs.Checkpoints.{numbers_of_job}
use Rattle.service.specs.Service.{State, Step, next, spoiled}
use Rattle.service.specs.Units.{here, row_step, task_step, unit_by}
use Rattle.service.specs.JobKinds.{JobKind, rows_in, KindLaws}
use Rattle.service.specs.RowUnits.{RowChosen, OnBoard, UnitOnBoard}
use Rattle.service.proofs.Numbers.{continues}

-- ---- what a unit leaves
abbrev left : Step (List ℕ) → List ℕ
left (next s) = s.board
left spoiled = []

abbrev stage_in : Step (List ℕ) → Stage
stage_in (next s) = s.job.stage
stage_in spoiled = Stage.Infeasible

spoiled_not_next : {s : State (List ℕ)} {A : Type 0} → spoiled ≡ next s → A
spoiled_not_next e = absurd (let z : ◌≡◌ {A = ℕ} 0 1 = cc in omega arith)

module _ (Given : Type 0) (check : Job → Given → List ℕ → List ℕ → Answer) (unit : Given → State (List ℕ) → Step (List ℕ)) (given : Given) (K : JobKind)
    (L : KindLaws Given check unit given K) (s s' : State (List ℕ)) (O : K.Of s.job) (f : job_fits s.job ≡ true)
    (p : check s.job given s.table s.board ≡ passed) (e : unit given s ≡ next s') where
  abbrev J : Setup ℕ (List ℕ)
  J = K.setup

  abbrev u : ℕ
  u = s.job.units

  is_unit : unit_by J s ≡ next s'
  is_unit = sym (L.units s O) ∙ e

  -- the task, of the job's own shape as of the kind's
  task_of_lem : {o : Task} → J.plan u ≡ o → K.shape.plan u ≡ o
  task_of_lem q = ap (λ (plan : ℕ → Task). plan u) L.numbered.plans ∙ q

  job_task : (shape_of s.job.kind s.job.width s.job.height).plan u ≡ J.plan u
  job_task = ap (λ (S : Shape). S.plan u) (L.numbered.is s.job O) ∙ ap (λ (plan : ℕ → Task). plan u) L.numbered.plans

  -- an ended job stays
  stays : (m : ℕ) → mark_of s.job.stage ≡ suc m → s'.board ≡ s.board
  unfolding unit_by
  stays m q = sym (ap left (rw q at is_unit))

  module _ (running : mark_of s.job.stage ≡ 0) where
    does : (o : Task) → J.plan u ≡ o → task_step J o s ≡ next s'
    unfolding unit_by
    does o q = rw (running, q) at is_unit

    until : u < K.shape.board_length
    until = go (mark_of s.job.stage) (subst (λ (S : Shape). Units S u (mark_of s.job.stage)) (L.numbered.is s.job O) fit) running
      where
        fit : Units (shape_of s.job.kind s.job.width s.job.height) u (mark_of s.job.stage)
        fit = (numbers_at s.job.kind (numbers_of s.job) (fits_numbers s.job f)).are.units

        go : (m : ℕ) → Units K.shape u m → m ≡ 0 → u < K.shape.board_length
        go m (runs l) z = l
        go m (ends x) z = absurd (omega arith)
        go m (fails x) z = absurd (omega arith)

    -- the row with r rows above it
    module _ (r source : ℕ) (q : J.plan u ≡ row r source) where
      k : (K.shape.chosen u ≡ r) × (K.shape.chosen (suc u) ≡ suc r)
      k = L.numbered.shaped.chooses u r source until (task_of_lem q)

      rows_above : rows_in K s.job ≡ r
      unfolding rows_chosen
      rows_above = rw running k.0

      room : suc r * K.width ≤ length s.board
      room =
          let few : r < K.shape.rows = rw k.0 at (chosen_few K.shape L.numbered.shaped (rw L.numbered.rows L.high) u until) in
          let l : r < J.height = rw L.numbered.rows at few in
          omega (arith, mul-le-mul_right K.width l, L.all_rows_lem, (L.room s.job s.table s.board O p).0)

    -- is chosen
    module _ (r source : ℕ) (q : J.plan u ≡ row r source) (c v : ℕ) (lc : c < J.kind.codes) (d : row_step J r s (chosen c v) ≡ next s') where
      abbrev n : Numbers
      n = after_row J.height r c (J.kind.add (J.height - suc r) c (live_of s.job.stage)) (here s.job)

      is : s' ≡ record { job = job_with s.job n; table = s.table; board = J.write r c s.board }
      is = cc

      back : numbers_of (job_with s.job n) ≡ numbers_with s.job n
      back = numbers_of_job s.job.kind (numbers_with s.job n) ((continues J K.shape K.Of L.numbered).after_row_lem s.job O f running r source q c lc)

      rows_after_lem : (b : Bool) → rows_chosen K.shape (suc u) (cond b 0 1) ≡ suc r
      unfolding rows_chosen
      rows_after_lem true = (k r source q).1
      rows_after_lem false = (k r source q).1

      row_chosen : RowChosen K s s'
      row_chosen = record {
        more = rw (rows_above r source q, is)
            (ap (λ (x : Checkpoint). rows_chosen K.shape (suc u) x.mark) back ∙ rows_after_lem (ltb (suc r) J.height));
        only = rw (rows_above r source q, is) (L.writer.only r c s.board);
        reads = rw (rows_above r source q, is) (L.writer.back r c s.board lc (room r source q) ∙ sym (ap (λ (x : Checkpoint). x.last) back));
      }

    row_left : (r source : ℕ) → J.plan u ≡ row r source → (o : Choice ℕ) → RowBelow J.kind.codes o → row_step J r s o ≡ next s'
        → RowChosen K s s' ⊎ ((s'.job.stage ≡ Stage.Infeasible) × (s'.board ≡ s.board))
    unfolding stage_of
    row_left r source q (chosen c v) lc d = inl (row_chosen r source q c v lc d)
    row_left zero source q nothing lc d = inr (sym (ap stage_in d), sym (ap left d))
    row_left (suc r) source q nothing lc d = spoiled_not_next d

    fills : (o : Task) → J.plan u ≡ o → is_fill o ≡ true → s'.board ≡ s.board
    fills (fill k source target i) q x = sym (ap left (does (fill k source target i) q))
    fills (row r source) q x = absurd (true≢false (sym x))

    chooses : (o : Task) → J.plan u ≡ o → not (is_fill o) ≡ true → RowChosen K s s' ⊎ ((s'.job.stage ≡ Stage.Infeasible) × (s'.board ≡ s.board))
    chooses (fill k source target i) q x = absurd (true≢false (sym x))
    chooses (row r source) q x =
        let a = above_of s.job.stage in
        let b = last_of s.job.stage in
        let numbers = reads J.kind s.table source b in
        row_left r source q (choose J.kind (J.height - suc r) a b numbers) (choose_below J.kind (J.height - suc r) a b numbers) (does (row r source) q)

  -- the stage is that of the next unit
  by_stage : (x : Stage) → s.job.stage ≡ x → OnBoard K x s s'
  by_stage (Stage.Filling above last live) q =
      fills (ap mark_of q) (J.plan u) refl
      (subst (λ (o : Task). is_fill o ≡ true) job_task (subst (λ (x : Stage). stage_fits (shape_of s.job.kind s.job.width s.job.height) u x ≡ true) q (fits_stage s.job f)))
  by_stage (Stage.Choosing above last live) q =
      chooses (ap mark_of q) (J.plan u) refl
      (subst (λ (o : Task). not (is_fill o) ≡ true) job_task (subst (λ (x : Stage). stage_fits (shape_of s.job.kind s.job.width s.job.height) u x ≡ true) q (fits_stage s.job f)))
  by_stage (Stage.Finished above last score) q = stays 0 (ap mark_of q)
  by_stage Stage.Infeasible q = stays 1 (ap mark_of q)

pub unit_on_board : (Given : Type 0) (check : Job → Given → List ℕ → List ℕ → Answer) (unit : Given → State (List ℕ) → Step (List ℕ)) (given : Given) (K : JobKind)
    → UnitOnBoard Given check unit given K
unit_on_board Given check unit given K L s s' O f p e = by_stage Given check unit given K L s s' O f p e s.job.stage refl
