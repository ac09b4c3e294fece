-- A unit of a job that fits leaves a job that fits, of the same width and height, and memory of the same lengths: what a working call's checks
-- have shown holds before each of its units.
-- Assumes nothing.
use mathlib.Core.Path.{◌≡◌, refl, ◌∙◌, subst}
use mathlib.Core.Bool.{true}
use mathlib.Core.List.{List}
use Prim.Native.Nat.{ℕ, zero, suc, ◌+◌, ◌-◌, ◌^◌, ◌≤◌, ◌<◌}
use native.Mathlib.Omega.{arith}
use lib.ListN.{length, length-set}
use Rattle.board.specs.Boards.{max_width}
use Rattle.elimination.specs.Candidates.{Choice, nothing, chosen}
use Rattle.rule.specs.declared.Rule.{Rule}
use Rattle.job_kind.specs.Kinds.{halves_of, kind_digits, plan_of, shape_of}
use Rattle.job.specs.Jobs.{above_of, last_of, mark_of, job_fits}
use Rattle.elimination.specs.Kind.{choose}
use Rattle.elimination.specs.Table.{reads, fill_entry}
use Rattle.elimination.specs.Task.{Task, fill, row}
use Rattle.elimination.proofs.Rounds.{FillAt, fill_at_lem, row_at}
use Rattle.board.proofs.Powers.{four_pos}
use Rattle.service.specs.Units.{row_step, task_step, mark_step, unit_by}
use Rattle.service.specs.Service.{next, spoiled}
use Rattle.third_demand.specs.Units.{State, Step, want_by, grid_rows, setup_of, unit_of}
use Rattle.third_demand.specs.Lent.{Lent, Chooses}
use Rattle.score_table.specs.Inner.{Memory, EntriesRead}
use Rattle.job_kind.specs.declared.Kind.{Kind}
use Rattle.job.specs.declared.Job.{Job}
use Rattle.job_kind.proofs.Shapes.{shape_rounds}
use Rattle.job.proofs.Fits.{fits_frame}
use Rattle.job.proofs.Next.{fits_until}
use Rattle.third_demand.proofs.Optimum.{rows_stand}
use Rattle.third_demand.proofs.Machine.{follows}

-- ---- the job
-- a next job that fits, of the same kind, rule and grid
pub record Fit (j j' : Job) : Type 0 where
  pub taken : job_fits j' ≡ true
  pub kind : j'.kind ≡ j.kind
  pub rule : j'.rule ≡ j.rule
  pub width : j'.width ≡ j.width
  pub height : j'.height ≡ j.height

pub unit_fits : (g : List ℕ) (s s' : State) → job_fits s.job ≡ true → unit_of g s ≡ next s' → Fit s.job s'.job
unit_fits g s s' f e =
    let H = ((follows s.job.kind (fits_frame s.job f) g).moves s s' (record { of = record { kept = refl; ruled = refl; wide = refl; tall = refl }; taken = f }) e).0 in
    record { taken = H.taken; kind = H.of.kept; rule = H.of.ruled; width = H.of.wide; height = H.of.tall }

-- ---- the memory
record Lengths (t β t' β' : List ℕ) : Type 0 where
  table : length t' ≡ length t
  board : length β' ≡ length β

abbrev StepLengths : List ℕ → List ℕ → Step → Type 0
StepLengths t β (next s') = Lengths t β s'.table s'.board
StepLengths t β spoiled = Unit {0}

module _ (kind : Kind) (rule : Rule) (w h : ℕ) (g : List ℕ) (s : State) where
  row_lengths : (r : ℕ) (o : Choice ℕ) → StepLengths s.table s.board (row_step (setup_of kind rule w h g) r s o)
  row_lengths r (chosen c n) = record { table = refl; board = ((rows_stand (halves_of kind) w).only r c s.board).size }
  row_lengths zero nothing = record { table = refl; board = refl }
  row_lengths (suc r) nothing = tt

  task_lengths : (o : Task) → StepLengths s.table s.board (task_step (setup_of kind rule w h g) o s)
  unfolding fill_entry
  task_lengths (fill k source target j) = record { table = length-set s.table (target + j) _; board = refl }
  task_lengths (row r source) =
      row_lengths r
      (choose (grid_rows kind rule w h g) (h - suc r) (above_of s.job.stage) (last_of s.job.stage)
      (reads (grid_rows kind rule w h g) s.table source (last_of s.job.stage)))

  mark_lengths : (m : ℕ) (o : Task) → StepLengths s.table s.board (mark_step (setup_of kind rule w h g) m o s)
  mark_lengths zero o = task_lengths o
  mark_lengths (suc m) o = record { table = refl; board = refl }

unit_lengths : (g : List ℕ) (s s' : State) → unit_of g s ≡ next s' → Lengths s.table s.board s'.table s'.board
unfolding unit_of unit_by
unit_lengths g s s' e =
    subst (StepLengths s.table s.board) e
    (mark_lengths s.job.kind s.job.rule s.job.width s.job.height g s (mark_of s.job.stage) (plan_of s.job.kind s.job.width s.job.height s.job.units))

-- ---- what the checks have shown holds again
pub unit_lent : (g : List ℕ) (s s' : State) → Lent s.job g s.table s.board → unit_of g s ≡ next s' → Lent s'.job g s'.table s'.board
unit_lent g s s' L e =
    let F = unit_fits g s s' L.taken e in
    let N = unit_lengths g s s' e in record {
      taken = F.taken;
      marks = rw (F.width, F.height) L.marks;
      cells = rw (F.width, F.height) (N.board ∙ L.cells);
      entries = rw (F.kind, F.width, F.height, N.table) L.entries;
    }

-- ---- what they have shown, by the job's task
pub lent_memory : {j : Job} {g t β : List ℕ} → Lent j g t β → Memory (halves_of j.kind) j.width j.height g
lent_memory {j} L =
    let z = (fits_frame j L.taken).size in record { width = z.width; low = z.low; marks = L.marks }

-- where an entry is to be filled: it is one of its layer's, and the layers lie within the table
module _ {j : Job} {g t β : List ℕ} {k source target i : ℕ} (L : Lent j g t β) (m : mark_of j.stage ≡ 0)
    (p : (shape_of j.kind j.width j.height).plan j.units ≡ fill k source target i) where
  at : FillAt (shape_rounds j.width j.height j.kind) k source target i
  at = fill_at_lem (shape_rounds j.width j.height j.kind) (four_pos (kind_digits j.kind j.width)) (fits_until j L.taken m) p

  pub lent_entry : (kind_digits j.kind j.width ≤ max_width) × (i < 4 ^ kind_digits j.kind j.width)
  lent_entry = ((fits_frame j L.taken).size.width.narrow, at.inside)

  pub lent_read : (n : ℕ) → i + n ≤ 4 ^ kind_digits j.kind j.width → EntriesRead (want_by j.kind) j.width j.height k source i n g t × (target + 4 ^ kind_digits j.kind j.width ≤ length t)
  lent_read n l = (
    record { memory = lent_memory L; after = at.after; inside = l; layer = λ z. omega (arith, at.reads z, L.entries) },
    omega (arith, at.writes, L.entries),
  )

-- where a row is to be chosen: it is one of the board's, and its layer lies within the table
pub record RowIn (j : Job) (r source : ℕ) (t : List ℕ) : Type 0 where
  pub inside : r < j.height
  pub layer : source + 4 ^ kind_digits j.kind j.width ≤ length t

pub row_in : {j : Job} {r source : ℕ} {g t β : List ℕ} → Chooses j r source g t β → RowIn j r source t
row_in {j} {r} {source} C =
    let R = row_at (shape_rounds j.width j.height j.kind) (fits_until j C.lent.taken C.running) C.task in
    record { inside = R.one; layer = omega (arith, R.layer, C.lent.entries) }
