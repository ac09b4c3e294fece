-- A job's units by its setup are the units of row elimination's machine: once for any kind of job.
-- Assumes nothing.
use mathlib.Core.Path.{◌≡◌, refl, sym, ◌∙◌, ap, subst}
use mathlib.Core.Bool.{Bool, true, false, cond, true≢false}
use mathlib.Core.List.{List}
use Prim.Native.Nat.{ℕ, zero, suc, ◌-◌}
use lib.Dec.{ltb}
use Rattle.board.specs.Answers.{Answer}
use Rattle.elimination.specs.Candidates.{Choice, nothing, chosen}
use Rattle.elimination.specs.Kind.{choose}
use Rattle.elimination.specs.Table.{reads, fill_entry}
use Rattle.elimination.specs.Task.{Task, fill, row}
use Rattle.elimination.specs.Shape.{Numbers, after_entry, after_row, after_none}
use Rattle.elimination.specs.Job.{Mark, running, finished, infeasible, end_mark, Setup, take_row, act, unit, machine}
use Rattle.elimination.specs.Job as Elimination
use Rattle.elimination.proofs.Candidates.{RowBelow}
use Rattle.elimination.proofs.Kind.{choose_below}
use Rattle.job.specs.Jobs.{above_of, last_of, live_of, mark_of, numbers_of, job_of, job_fits, checkpoint_fits, numbers_with, job_with}
use Rattle.job.specs.declared.Stage.{Stage}
use Rattle.job.specs.declared.Job.{Job}
use Rattle.job_kind.specs.declared.Kind.{Kind}
use Rattle.job.specs.declared.Checkpoint.{Checkpoint}
use Rattle.job.proofs.Checkpoints.{numbers_of_job, resumed_fits}
use Rattle.service.specs.Service.{unfinished, stage_says, State, Step, next, spoiled}
use Rattle.service.specs.Laws.{Follows}
use Rattle.service.specs.Units.{here, row_step, task_step, mark_step, unit_by, Continues}

-- ---- the machine's view
abbrev pub mark_in : ℕ → Mark
mark_in zero = running
mark_in (suc zero) = finished
mark_in (suc (suc m)) = infeasible

abbrev pub view_of : Checkpoint → List ℕ → List ℕ → Elimination.State ℕ (List ℕ)
view_of t table board =
    record { units = t.units; above = t.above; last = t.last; so_far = t.live; mark = mark_in t.mark; table = table; board = board }

abbrev pub view : State (List ℕ) → Elimination.State ℕ (List ℕ)
view s = view_of (numbers_of s.job) s.table s.board

-- the view of a job of numbers that fit is theirs
view_of_lem : (kind : Kind) (t : Checkpoint) (table board : List ℕ) → checkpoint_fits kind t ≡ true → view (record { job = job_of kind t; table = table; board = board }) ≡ view_of t table board
view_of_lem kind t table board f = ap (λ (n : Checkpoint). view_of n table board) (numbers_of_job kind t f)

mark_more : (b : Bool) → mark_in (cond b 0 1) ≡ cond b running finished
mark_more true = refl
mark_more false = refl

pub running_mark : (s : Stage) → end_mark (mark_in (mark_of s)) ≡ false → stage_says s ≡ unfinished
running_mark (Stage.Filling a l n) e = refl
running_mark (Stage.Choosing above last live) e = refl
running_mark (Stage.Finished above last score) e = absurd (true≢false e)
running_mark Stage.Infeasible e = absurd (true≢false e)

module _ (J : Setup ℕ (List ℕ)) (Of : Job → Type 0) (C : Continues J Of) where
  -- a job of the setup that fits
  pub record Here (s : State (List ℕ)) : Type 0 where
    pub of : Of s.job
    pub taken : job_fits s.job ≡ true

  -- a unit that is done, and one that can't be
  abbrev pub Steps : Step (List ℕ) → State (List ℕ) → Type 0
  Steps (next s') s = Here s' × (view s' ≡ (machine J).unit (view s))
  Steps spoiled s = ((machine J).unit (view s) ≡ view s) × (Elimination.ended (view s) ≡ false)

  moved : (s : State (List ℕ)) → Here s → (n : Numbers) → checkpoint_fits s.job.kind (numbers_with s.job n) ≡ true → (table board : List ℕ)
      → view_of (numbers_with s.job n) table board ≡ (machine J).unit (view s) → Steps (next record { job = job_with s.job n; table = table; board = board }) s
  moved s H n f table board e =
      let t = numbers_with s.job n in
      (record { of = C.same s.job t H.of refl refl refl refl; taken = resumed_fits s.job.kind t f }, view_of_lem s.job.kind t table board f ∙ e)

  row_law : (s : State (List ℕ)) → Here s → mark_of s.job.stage ≡ 0 → (r source : ℕ) → J.plan s.job.units ≡ row r source
      → (o : Choice ℕ) → RowBelow J.kind.codes o → (machine J).unit (view s) ≡ take_row J r (view s) o → Steps (row_step J r s o) s
  row_law s H m r source p (chosen c v) l e =
      let n = J.kind.add (J.height - suc r) c (live_of s.job.stage) in
      moved s H (after_row J.height r c n (here s.job)) (C.after_row_lem s.job H.of H.taken m r source p c l) s.table (J.write r c s.board)
      (rw (mark_more (ltb (suc r) J.height)) (sym e))
  row_law s H m zero source p nothing l e =
      moved s H (after_none (here s.job)) (C.after_none_lem s.job H.of H.taken m source p) s.table s.board (sym e)
  row_law s H m (suc r) source p nothing l e = (e, rw m)

  task_law : (s : State (List ℕ)) → Here s → mark_of s.job.stage ≡ 0 → (o : Task) → J.plan s.job.units ≡ o
      → (machine J).unit (view s) ≡ act J o (view s) → Steps (task_step J o s) s
  task_law s H m (fill k source target i) p e =
      moved s H (after_entry (here s.job)) (C.after_entry_lem s.job H.of H.taken m k source target i p)
      (fill_entry J.kind k source target i s.table) s.board (ap marked (sym m) ∙ sym e)
    where
      marked : ℕ → Elimination.State ℕ (List ℕ)
      marked x =
          view_of
          (numbers_with s.job (record { units = suc s.job.units; above = above_of s.job.stage; last = last_of s.job.stage; live = live_of s.job.stage; mark = x }))
          (fill_entry J.kind k source target i s.table) s.board
  task_law s H m (row r source) p e =
      let a = above_of s.job.stage in
      let b = last_of s.job.stage in
      let read = reads J.kind s.table source b in
      row_law s H m r source p (choose J.kind (J.height - suc r) a b read) (choose_below J.kind (J.height - suc r) a b read) e

  pub unit_law : (s : State (List ℕ)) → Here s → Steps (unit_by J s) s
  unfolding unit_by unit
  unit_law s H = go (mark_of s.job.stage) refl
    where
      go : (m : ℕ) → mark_of s.job.stage ≡ m → Steps (mark_step J m (J.plan s.job.units) s) s
      go zero e = task_law s H e (J.plan s.job.units) refl (rw e)
      go (suc zero) e = (H, rw e)
      go (suc (suc m)) e = (H, rw e)

-- so a job follows the machine, where its service's units are its setup's: once for any kind of job
abbrev pub follows : (Given : Type 0) (check : Job → Given → List ℕ → List ℕ → Answer) (unit_of : Given → State (List ℕ) → Step (List ℕ)) (given : Given)
    (J : Setup ℕ (List ℕ)) (Of : Job → Type 0) (C : Continues J Of)
    → ((s : State (List ℕ)) → Of s.job → unit_of given s ≡ unit_by J s)
    → Follows (record { Given = Given; Table = List ℕ; check = check; unit = unit_of }) given (machine J)
follows Given check unit_of given J Of C is = record {
  view = view;
  Here = Here J Of C;
  fits = λ s H. H.taken;
  units = λ s. refl;
  running = λ s e. running_mark s.job.stage e;
  moves = λ s s' H e. subst (λ (o : Step (List ℕ)). Steps J Of C o s) (sym (is s H.of) ∙ e) (unit_law J Of C s H);
  stands = λ s H e. subst (λ (o : Step (List ℕ)). Steps J Of C o s) (sym (is s H.of) ∙ e) (unit_law J Of C s H);
}
