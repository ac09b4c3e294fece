-- Document 01, "A job and its units", Req 02, Req 05, Req 06 and Req 08: a job, its ten numbers, which of them fit, the rules of opening, pausing and
-- resuming, and the job after a unit. `Checkpoint` is the paper's seven numbers, the two of the rule and that of the kind, and the stage `Infeasible` its
-- none.
-- Assumes nothing.
use Rattle.std.specs.Prelude.{Bool, true, cond, not, ◌&&◌, List, [], ◌∷◌, ℕ, zero, suc, ◌+◌, ◌*◌, eqb, leb, ltb, Option, None, Some, Result}
use Rattle.board.specs.Answers.{Answer, gives, says, ◌then◌, refuse_unless}
use Rattle.board.specs.Boards.{among, max_height, width_fits, is_width}
use Rattle.board.specs.Search.{all_below}
use Rattle.board.specs.declared.ChosenRow.{ChosenRow}
use Rattle.board.specs.declared.Refusal.{Refusal}
use Rattle.elimination.specs.Task.{is_fill}
use Rattle.elimination.specs.Task as Elimination
use Rattle.elimination.specs.Shape.{Shape, Numbers, numbers_fit, after_entry, after_entries, after_row, after_none}
use Rattle.rule.specs.Rule.{rule_fits, grid_check}
use Rattle.rule.specs.declared.Rule.{Rule}
use Rattle.job_kind.specs.Kinds.{kind_number, halves_of, shape_of, read_check}
use Rattle.job_kind.specs.declared.Kind.{Kind}
use Rattle.job.specs.declared.Stage.{Stage}
use Rattle.job.specs.declared.Job.{Job}
use Rattle.job.specs.declared.Checkpoint.{Checkpoint}
use Rattle.job.specs.declared.Task as Task

-- ---- the ten numbers of a job
-- row above, last row, live cells so far and end mark of a stage
abbrev pub above_of : Stage → ℕ
above_of (Stage.Filling above last live) = above
above_of (Stage.Choosing above last live) = above
above_of (Stage.Finished above last score) = above
above_of Stage.Infeasible = 0

abbrev pub last_of : Stage → ℕ
last_of (Stage.Filling above last live) = last
last_of (Stage.Choosing above last live) = last
last_of (Stage.Finished above last score) = last
last_of Stage.Infeasible = 0

abbrev pub live_of : Stage → ℕ
live_of (Stage.Filling above last live) = live
live_of (Stage.Choosing above last live) = live
live_of (Stage.Finished above last score) = score
live_of Stage.Infeasible = 0

abbrev pub mark_of : Stage → ℕ
mark_of (Stage.Filling above last live) = 0
mark_of (Stage.Choosing above last live) = 0
mark_of (Stage.Finished above last score) = 1
mark_of Stage.Infeasible = 2

abbrev pub numbers_of : Job → Checkpoint
numbers_of j = record {
  width = j.width;
  height = j.height;
  units = j.units;
  above = above_of j.stage;
  last = last_of j.stage;
  live = live_of j.stage;
  mark = mark_of j.stage;
  births = j.rule.births;
  survivals = j.rule.survivals;
  kind = kind_number j.kind;
}

-- in the paper's terms the ten numbers are themselves, and a job is its ten numbers
abbrev pub checkpoint_says : Checkpoint → List ℕ
checkpoint_says t = t.width ∷ t.height ∷ t.units ∷ t.above ∷ t.last ∷ t.live ∷ t.mark ∷ t.births ∷ t.survivals ∷ t.kind ∷ []

abbrev pub job_says : Job → List ℕ
job_says j = checkpoint_says (numbers_of j)

-- ---- which numbers fit
-- the rule of a paused job
abbrev pub rule_of : Checkpoint → Rule
rule_of t = record { births = t.births; survivals = t.survivals }

-- the numbers that a job's units change
abbrev pub numbers_in : Checkpoint → Numbers
numbers_in t = record { units = t.units; above = t.above; last = t.last; live = t.live; mark = t.mark }

-- the numbers that resuming as a kind takes: they are of that kind, width and height fit, the rule isn't barred, and the others fit the job's shape
unfoldable pub checkpoint_fits : Kind → Checkpoint → Bool
checkpoint_fits kind t =
    eqb t.kind (kind_number kind) &&
    (is_width (halves_of kind) t.width &&
    among max_height t.height &&
    rule_fits (rule_of t) &&
    numbers_fit (shape_of kind t.width t.height) (numbers_in t))

-- a running job's stage is the task of its next unit: filling where that fills an entry, choosing where it chooses a row
abbrev pub stage_fits : Shape → ℕ → Stage → Bool
stage_fits S units (Stage.Filling above last live) = is_fill (S.plan units)
stage_fits S units (Stage.Choosing above last live) = not (is_fill (S.plan units))
stage_fits S units (Stage.Finished above last score) = true
stage_fits S units Stage.Infeasible = true

abbrev pub running_at : Shape → ℕ → ℕ → ℕ → ℕ → Stage
running_at S units above last live = cond (is_fill (S.plan units)) (Stage.Filling above last live) (Stage.Choosing above last live)

-- the jobs that pausing and working take
unfoldable pub job_fits : Job → Bool
job_fits j = checkpoint_fits j.kind (numbers_of j) && stage_fits (shape_of j.kind j.width j.height) j.units j.stage

-- ---- opening, pausing, resuming
-- the job that opening hands out, at unit 0
abbrev pub start : Kind → Rule → ℕ → ℕ → Job
start kind rule w h = record { kind = kind; rule = rule; width = w; height = h; units = 0; stage = Stage.Filling 0 0 0 }

-- the job that resuming as a kind hands out
unfoldable pub stage_of : Kind → Checkpoint → Stage
stage_of kind t =
    cond (eqb t.mark 1) (Stage.Finished t.above t.last t.live)
    (cond (eqb t.mark 2) Stage.Infeasible (running_at (shape_of kind t.width t.height) t.units t.above t.last t.live))

abbrev pub job_of : Kind → Checkpoint → Job
job_of kind t = record { kind = kind; rule = rule_of t; width = t.width; height = t.height; units = t.units; stage = stage_of kind t }

-- opening: 1, 2, 13 by how the kind holds rows, then those
unfoldable pub open_rule : Kind → Rule → ℕ → ℕ → List ℕ → Answer
open_rule kind rule w h givens = grid_check (halves_of kind) rule w h then read_check kind rule w h givens then gives (job_says (start kind rule w h))

-- pausing: 7
unfoldable pub pause_rule : Job → Answer
pause_rule j = refuse_unless (job_fits j) 7 then gives (job_says j)

-- resuming as a kind: 7
unfoldable pub resume_rule : Kind → Checkpoint → Answer
resume_rule kind t = refuse_unless (checkpoint_fits kind t) 7 then gives (checkpoint_says t)

-- ---- a unit
-- the job runs, and its width and height are within their limits
abbrev pub runs_within : Job → Bool
runs_within j = width_fits (halves_of j.kind) j.width && leb j.height max_height && eqb (mark_of j.stage) 0

-- The task of the next unit: there is none where the job has ended, its units are spent, or its width or height is past its limit.
unfoldable pub task_due : Job → Option Elimination.Task
task_due j =
    let S = shape_of j.kind j.width j.height in
    cond (runs_within j && ltb j.units S.board_length) (Some (S.plan j.units)) None

abbrev pub task_of : Task.Task → Elimination.Task
task_of (Task.Task.Fill after source target entry) = Elimination.fill after source target entry
task_of (Task.Task.Choose row source) = Elimination.row row source

-- a job's ten numbers with these in place of those that its units change, and the job of them
abbrev pub numbers_with : Job → Numbers → Checkpoint
numbers_with j n = record {
  width = j.width;
  height = j.height;
  units = n.units;
  above = n.above;
  last = n.last;
  live = n.live;
  mark = n.mark;
  births = j.rule.births;
  survivals = j.rule.survivals;
  kind = kind_number j.kind;
}

abbrev pub job_with : Job → Numbers → Job
job_with j n = job_of j.kind (numbers_with j n)

-- After the choice of the row with r rows above it. A row that is none of the shape's codes, or worth more than a row can be, leaves the job as it
-- is, and so does a job whose live cells are more than its rows can have. Where no row can be chosen the job ends at row 1, and stands at a later row.
abbrev pub after_choice : Shape → ℕ → Job → Option ChosenRow → Job
after_choice S r j (Some chosen) =
    cond (ltb chosen.row S.codes && leb chosen.worth S.most && leb (live_of j.stage) (S.most * S.rows))
    (job_with j (after_row S.rows r chosen.row (chosen.worth + live_of j.stage) (numbers_in (numbers_of j)))) j
after_choice S zero j None = job_with j (after_none (numbers_in (numbers_of j)))
after_choice S (suc r) j None = j

-- The job after its unit: by its task, and where that chooses a row by what is chosen. Without a task it stays as it is.
abbrev pub after_task : Option Elimination.Task → Job → Option ChosenRow → Job
after_task None j chosen = j
after_task (Some (Elimination.fill k source target entry)) j chosen = job_with j (after_entry (numbers_in (numbers_of j)))
after_task (Some (Elimination.row r source)) j chosen = after_choice (shape_of j.kind j.width j.height) r j chosen

unfoldable pub after_unit : Job → Option ChosenRow → Job
after_unit j chosen = after_task (task_due j) j chosen

-- The job after m entries: the job runs, and each of the next m units fills one. Where that isn't so, it stays as it is.
unfoldable pub fills_next : Job → ℕ → Bool
fills_next j m = runs_within j && all_below (λ i. is_fill ((shape_of j.kind j.width j.height).plan (j.units + i))) m

unfoldable pub after_fills : ℕ → Job → Job
after_fills m j = cond (fills_next j m) (job_with j (after_entries m (numbers_in (numbers_of j)))) j

-- ---- the paper's number and values of each answer
abbrev pub job_result_says : Result Job Refusal → Answer
job_result_says = says job_says

abbrev pub paused_says : Result Checkpoint Refusal → Answer
paused_says = says checkpoint_says
