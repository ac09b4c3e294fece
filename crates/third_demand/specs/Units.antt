-- Document 01, "A job and its units" and "Turned away": what a unit of a grid's job does, over the numbers that the table then holds, right or not, and
-- the checks of what a working call is lent. Of a job with a target `givens` is the target that is lent in their place.
-- Assumes nothing.
use Rattle.std.specs.Prelude.{List, ℕ}
use Rattle.board.specs.Answers.{Answer, ◌then◌}
use Rattle.board.specs.Checks.{length_check, table_check}
use Rattle.elimination.specs.Kind as Elimination
use Rattle.elimination.specs.Job.{Setup}
use Rattle.rule.specs.Rule.{next_under}
use Rattle.rule.specs.declared.Rule.{Rule}
use Rattle.job_kind.specs.Kinds.{halves_of, has_target, kind_digits, layers_of, plan_of, read_check}
use Rattle.job_kind.specs.declared.Kind.{Kind}
use Rattle.job.specs.declared.Job.{Job}
use Rattle.service.specs.Service.{Service}
use Rattle.service.specs.Service as Shared
use Rattle.service.specs.Units.{unit_by}
use Rattle.board_rows.specs.Rows.{put_row}
use Rattle.score_table.specs.ScoreTable.{want_of, kind_for}
use Rattle.score_table.specs.declared.Want.{Want}

-- a job with the table and the board that it is lent, and what a unit comes to
abbrev pub State : Type 0
State = Shared.State (List ℕ)

abbrev pub Step : Type 0
Step = Shared.Step (List ℕ)

-- what is wanted of a grid's rows, by the kind of job, and row elimination over them
abbrev pub want_by : Kind → Want
want_by kind = want_of (halves_of kind) (has_target kind)

abbrev pub grid_rows : Kind → Rule → ℕ → ℕ → List ℕ → Elimination.Kind ℕ
grid_rows kind rule w h givens = kind_for (want_by kind) (next_under rule) w h givens

-- a grid's job: by the plan of its kind entries are filled by the rules of a score table and rows are chosen, and each is written into its part of the
-- board, by how the kind holds rows
abbrev pub setup_of : Kind → Rule → ℕ → ℕ → List ℕ → Setup ℕ (List ℕ)
setup_of kind rule w h givens = record {
  kind = grid_rows kind rule w h givens;
  height = h;
  write = put_row (kind_digits kind w) w;
  plan = plan_of kind w h;
}

-- one unit
unfoldable pub unit_of : List ℕ → State → Step
unit_of givens s = unit_by (setup_of s.job.kind s.job.rule s.job.width s.job.height givens) s

-- ---- the service of a grid: jobs that are lent givens, a table and a board
-- the checks after 7: those of what is read, as opening makes them, then 5, and 6 by the layers of the job's kind
unfoldable pub lent_check : Job → List ℕ → List ℕ → List ℕ → Answer
lent_check j givens table board =
    read_check j.kind j.rule j.width j.height givens then
    length_check 5 j.width j.height board then
    table_check (kind_digits j.kind j.width) (layers_of j.kind j.height) table

abbrev pub grid : Service
grid = record { Given = List ℕ; Table = List ℕ; check = lent_check; unit = unit_of }
