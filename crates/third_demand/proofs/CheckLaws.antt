-- What the checks of a working call answer, which is never 9; and what they have shown where they pass.
-- Assumes nothing.
use mathlib.Core.Path.{◌≡◌}
use mathlib.Core.List.{List}
use Prim.Native.Nat.{ℕ, ◌*◌, ◌≤◌}
use native.Mathlib.Omega.{arith}
use borrow.Author.Tests.{eq-eqb, eqb-true, le-leb, leb-true, lt-leb, ne_eqb}
use lib.Dec.{leb, eqb}
use lib.ListN.{length}
use Rattle.board.specs.Answers.{Answer, gives, refuses, ◌then◌, Checked}
use Rattle.board.specs.Checks.{length_check, table_size, table_check}
use Rattle.board.proofs.Answers.{then_gives, unless_gives, checked_then, checked_unless}
use Rattle.edges.proofs.Theorems.{edge_checked}
use Rattle.job_kind.specs.Kinds.{kind_digits, layers_of, read_check}
use Rattle.job.specs.Jobs.{pause_rule}
use Rattle.job_kind.specs.declared.Kind.{Kind}
use Rattle.rule.specs.declared.Rule.{Rule}
use Rattle.third_demand.specs.Grid.{TargetCells}
use Rattle.job_kind.proofs.ReadChecks.{read_marks, read_checked}
use Rattle.service.specs.Service.{work_check}
use Rattle.service.specs.Laws.{ChecksSound}
use Rattle.service.proofs.Calls.{work_passed}
use Rattle.service.proofs.Calls as Shared
use Rattle.third_demand.specs.Units.{lent_check, grid}
use Rattle.third_demand.specs.Lent.{Lent, LentChecks}
use Rattle.job.specs.declared.Job.{Job}

-- a job that pausing turns away is turned away here, with the same refusal
pub pause_refused : (j : Job) (g t β : List ℕ) {n : ℕ} {us : List ℕ} → refuses n us ≡ pause_rule j → refuses n us ≡ work_check grid j g t β
pause_refused j g t β e = Shared.pause_refused grid j g t β e

-- the checks of what is read have shown a target's cells, where the job has a target
pub target_cells : (kind : Kind) (rule : Rule) (w h : ℕ) (g : List ℕ) {values : List ℕ} → read_check kind rule w h g ≡ gives values → TargetCells kind w h g
target_cells kind rule w h g e t = rw t at (read_marks kind rule w h g e)

module _ (j : Job) (g t β : List ℕ) where
  abbrev entries_check : Answer
  entries_check = table_check (kind_digits j.kind j.width) (layers_of j.kind j.height) t

  abbrev cells_check : Answer
  cells_check = length_check 5 j.width j.height β

  -- they answer what those of what is read do, and 5 and 6
  pub lent_checked : (n : ℕ) → (5 ≡ n → ⊥) → (6 ≡ n → ⊥) → Checked n (read_check j.kind j.rule j.width j.height g) → Checked n (lent_check j g t β)
  unfolding lent_check
  lent_checked n p q c =
      checked_then n (read_check j.kind j.rule j.width j.height g) (cells_check then entries_check) c
      (checked_then n cells_check entries_check (checked_unless n (eqb (length β) (j.width * j.height)) 5 p)
      (checked_unless n (leb (table_size (kind_digits j.kind j.width) (layers_of j.kind j.height)) (length t)) 6 q))

  -- what they have shown where they pass
  pub lent_passed : {values : List ℕ} → lent_check j g t β ≡ gives values → (length β ≡ j.width * j.height) × (table_size (kind_digits j.kind j.width) (layers_of j.kind j.height) ≤ length t)
  unfolding lent_check
  lent_passed e =
      let b = then_gives (read_check j.kind j.rule j.width j.height g) (cells_check then entries_check) e in
      let c = then_gives cells_check entries_check b.1 in (
        eqb-true (length β) (j.width * j.height) (unless_gives (eqb (length β) (j.width * j.height)) 5 c.0.1),
        leb-true (table_size (kind_digits j.kind j.width) (layers_of j.kind j.height)) (length t) (unless_gives (leb (table_size (kind_digits j.kind j.width) (layers_of j.kind j.height)) (length t)) 6 c.1),
      )

  pub lent_target : {values : List ℕ} → lent_check j g t β ≡ gives values → TargetCells j.kind j.width j.height g
  unfolding lent_check
  lent_target e =
      target_cells j.kind j.rule j.width j.height g (then_gives (read_check j.kind j.rule j.width j.height g) (cells_check then entries_check) e).0.1

  -- and all their answers
  pub lent_checks : LentChecks j g t β
  unfolding lent_check
  lent_checks = record {
    reads = λ e. rw e;
    cells = λ e n. rw (e, ne_eqb (length β) (j.width * j.height) n);
    entries = λ e b l. rw (e, eq-eqb (length β) (j.width * j.height) b, lt-leb (table_size (kind_digits j.kind j.width) (layers_of j.kind j.height)) (length t) l);
    passes = λ e b l. rw (e, eq-eqb (length β) (j.width * j.height) b, le-leb (table_size (kind_digits j.kind j.width) (layers_of j.kind j.height)) (length t) l);
  }

  pub lent_of : {values : List ℕ} → work_check grid j g t β ≡ gives values → Lent j g t β
  unfolding lent_check
  lent_of e =
      let p = work_passed grid j g t β e in
      let b = then_gives (read_check j.kind j.rule j.width j.height g) (cells_check then entries_check) p.1 in
      let c = lent_passed p.1 in
      record { taken = p.0; marks = (read_marks j.kind j.rule j.width j.height g b.0.1).long; cells = c.0; entries = c.1 }

pub checks_sound : ChecksSound grid
checks_sound j g t β =
    lent_checked j g t β 9 (λ e. omega arith) (λ e. omega arith)
    (read_checked j.kind j.rule j.width j.height g 9 (λ e. omega arith) (λ e. omega arith) (λ e. omega arith) (edge_checked 9 j.rule j.width j.height g (λ e. omega arith)))

pub work_checked : (j : Job) (g t β : List ℕ) → Checked 9 (work_check grid j g t β)
work_checked j g t β = Shared.work_checked grid j g t β 9 (λ e. omega arith) (checks_sound j g t β)
