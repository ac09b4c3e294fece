-- Document 01, "A job and its units": one unit of a job of any kind, by the setup that row elimination has for it, over the numbers that the table
-- then holds, right or not.
-- Assumes nothing.
use Rattle.std.specs.Prelude.{◌≡◌, true, List, ℕ, zero, suc, ◌+◌, ◌-◌, ◌≤◌, ◌<◌}
use Rattle.elimination.specs.Candidates.{Choice, nothing, chosen}
use Rattle.elimination.specs.Kind.{choose}
use Rattle.elimination.specs.Table.{reads, fill_entry}
use Rattle.elimination.specs.Task.{Task, fill, row}
use Rattle.elimination.specs.Job.{Setup}
use Rattle.elimination.specs.Shape.{Shape, Numbers, after_entry, after_row, after_none, ShapeLaws}
use Rattle.job.specs.Jobs.{above_of, last_of, live_of, mark_of, numbers_of, numbers_in, job_of, job_fits, checkpoint_fits, numbers_with, job_with}
use Rattle.job_kind.specs.Kinds.{shape_of}
use Rattle.job.specs.declared.Job.{Job}
use Rattle.job.specs.declared.Checkpoint.{Checkpoint}
use Rattle.service.specs.Service.{State, Step, next, spoiled}

-- the numbers that a job's units change
abbrev pub here : Job → Numbers
here j = numbers_in (numbers_of j)

-- of the jobs of one kind, rule and size: another job of the same kind, rule and size is one of them, whatever its other numbers
abbrev pub OfAnyNumbers : (Job → Type 0) → Type 0
OfAnyNumbers Of =
    (j : Job) (t : Checkpoint) → Of j → t.width ≡ j.width → t.height ≡ j.height → t.births ≡ j.rule.births → t.survivals ≡ j.rule.survivals → Of (job_of j.kind t)

module _ (J : Setup ℕ (List ℕ)) where
  -- a row is written into its part of the board; where there is none, the job ends at row 1, and the table is spoiled at a later row
  abbrev pub row_step : ℕ → State (List ℕ) → Choice ℕ → Step (List ℕ)
  row_step r s (chosen c v) =
      next record {
        job = job_with s.job (after_row J.height r c (J.kind.add (J.height - suc r) c (live_of s.job.stage)) (here s.job));
        table = s.table;
        board = J.write r c s.board;
      }
  row_step zero s nothing = next record { job = job_with s.job (after_none (here s.job)); table = s.table; board = s.board }
  row_step (suc r) s nothing = spoiled

  -- what a task comes to
  abbrev pub task_step : Task → State (List ℕ) → Step (List ℕ)
  task_step (fill k source target j) s =
      next record { job = job_with s.job (after_entry (here s.job)); table = fill_entry J.kind k source target j s.table; board = s.board }
  task_step (row r source) s =
      row_step r s
      (choose J.kind (J.height - suc r) (above_of s.job.stage) (last_of s.job.stage) (reads J.kind s.table source (last_of s.job.stage)))

  -- by the end mark: an ended job stays as it is
  abbrev pub mark_step : ℕ → Task → State (List ℕ) → Step (List ℕ)
  mark_step zero task s = task_step task s
  mark_step (suc m) task s = next s

  -- one unit
  unfoldable pub unit_by : State (List ℕ) → Step (List ℕ)
  unit_by s = mark_step (mark_of s.job.stage) (J.plan s.job.units) s

  -- The numbers go on: from numbers that fit, of a running job, the next ones fit. `Of` says which jobs are the setup's.
  pub record Continues (Of : Job → Type 0) : Type 0 where
    pub after_entry_lem : (j : Job) → Of j → job_fits j ≡ true → mark_of j.stage ≡ 0 → (k source target i : ℕ) → J.plan j.units ≡ fill k source target i
        → checkpoint_fits j.kind (numbers_with j (after_entry (here j))) ≡ true
    pub after_row_lem : (j : Job) → Of j → job_fits j ≡ true → mark_of j.stage ≡ 0 → (r source : ℕ) → J.plan j.units ≡ row r source → (c : ℕ) → c < J.kind.codes
        → checkpoint_fits j.kind (numbers_with j (after_row J.height r c (J.kind.add (J.height - suc r) c (live_of j.stage)) (here j))) ≡ true
    pub after_none_lem : (j : Job) → Of j → job_fits j ≡ true → mark_of j.stage ≡ 0 → (source : ℕ) → J.plan j.units ≡ row 0 source
        → checkpoint_fits j.kind (numbers_with j (after_none (here j))) ≡ true
    pub same : OfAnyNumbers Of

  -- What a kind has to show for that: its shape is lawful and the setup's, its jobs are of this shape, and a row adds at most what the shape says.
  pub record Numbered (S : Shape) (Of : Job → Type 0) : Type 0 where
    pub shaped : ShapeLaws S
    pub plans : S.plan ≡ J.plan
    pub rows : S.rows ≡ J.height
    pub codes : S.codes ≡ J.kind.codes
    pub is : (j : Job) → Of j → shape_of j.kind j.width j.height ≡ S
    pub earns : (k c n : ℕ) → J.kind.add k c n ≤ S.most + n
    pub same : OfAnyNumbers Of

  -- THE THEOREM of a job's numbers, for every shape
  abbrev pub NumbersContinue : Type 1
  NumbersContinue = (S : Shape) (Of : Job → Type 0) → Numbered S Of → Continues Of
