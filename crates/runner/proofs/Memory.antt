-- The checks of a working call over an opened job are those of its memory; and a call that passes them leaves a job of the same grid and memory
-- that passes them again.
-- Assumes nothing.
use mathlib.Core.Path.{◌≡◌, refl, ◌∙◌}
use mathlib.Core.List.{List}
use Prim.Native.Nat.{ℕ, zero, suc, ◌*◌}
use borrow.Author.Tests.{eq-eqb, le-leb}
use lib.ListN.{length}
use Rattle.board.specs.Answers.{passed}
use Rattle.rule.specs.declared.Rule.{Rule}
use Rattle.board.specs.Checks.{table_size}
use Rattle.job_kind.specs.Kinds.{kind_digits, layers_of, read_check}
use Rattle.job.specs.Jobs.{start}
use Rattle.service.specs.Service.{next, spoiled, on_step, works_on, work_check}
use Rattle.third_demand.specs.Units.{lent_check, State, Step, unit_of, grid}
use Rattle.third_demand.specs.Lent.{Lent}
use Rattle.job_kind.specs.declared.Kind.{Kind}
use Rattle.job.specs.declared.Job.{Job}
use Rattle.job.proofs.Fits.{Frame, start_fits}
use Rattle.third_demand.proofs.UnitLaws.{unit_fits, unit_lent}
use Rattle.runner.specs.Solving.{memory_check}

-- ---- an opened job
pub start_check : {kind : Kind} {rule : Rule} {w h : ℕ} → Frame kind rule w h → (g : List ℕ) → read_check kind rule w h g ≡ passed → (t β : List ℕ)
    → work_check grid (start kind rule w h) g t β ≡ memory_check kind w h t β
unfolding work_check lent_check memory_check
start_check {kind} z g read t β = rw (start_fits kind z, read)

-- ---- a call that passes
pub check_passes : (j : Job) (g t β : List ℕ) → read_check j.kind j.rule j.width j.height g ≡ passed → Lent j g t β → work_check grid j g t β ≡ passed
unfolding work_check lent_check
check_passes j g t β read L =
    rw (L.taken, read, eq-eqb (length β) (j.width * j.height) L.cells, le-leb (table_size (kind_digits j.kind j.width) (layers_of j.kind j.height)) (length t) L.entries)

-- a state of the same kind, rule and grid that passes again
pub record Kept (g : List ℕ) (s s' : State) : Type 0 where
  pub kind : s'.job.kind ≡ s.job.kind
  pub ruled : s'.job.rule ≡ s.job.rule
  pub width : s'.job.width ≡ s.job.width
  pub height : s'.job.height ≡ s.job.height
  pub lent : Lent s'.job g s'.table s'.board

module _ (g : List ℕ) where
  pub works_kept : (n : ℕ) (s : State) → Lent s.job g s.table s.board → Kept g s (works_on grid g n s).state
  unfolding works_on
  works_kept zero s L = record { kind = refl; ruled = refl; width = refl; height = refl; lent = L }
  works_kept (suc n) s L = go (unit_of g s) refl (works_kept n)
    where
      go : (o : Step) → unit_of g s ≡ o → ((s' : State) → Lent s'.job g s'.table s'.board → Kept g s' (works_on grid g n s').state)
          → Kept g s (on_step o s (works_on grid g n)).state
      go (next s') e ih =
          let F = unit_fits g s s' L.taken e in
          let K = ih s' (unit_lent g s s' L e) in
          record { kind = K.kind ∙ F.kind; ruled = K.ruled ∙ F.rule; width = K.width ∙ F.width; height = K.height ∙ F.height; lent = K.lent }
      go spoiled e ih = record { kind = refl; ruled = refl; width = refl; height = refl; lent = L }
