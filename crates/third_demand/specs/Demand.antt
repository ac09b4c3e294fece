-- THE THIRD DEMAND of a grid: what its job does on the way and comes to. Lists of calls, and the claim for any kind of job, are `Demand` of
-- crate `service`.
-- Assumes nothing.
use Rattle.std.specs.Prelude.{◌≡◌, Bool, true, false, cond, List, ℕ, ◌+◌, ◌-◌, ◌*◌, ◌/◌, ◌%◌, ◌^◌, ◌≤◌, ◌<◌, eqb, length, get_or, Ok, Result}
use Rattle.elimination.specs.Kind.{right_entry}
use Rattle.elimination.specs.Shape.{rows_chosen, entries_filled}
use Rattle.elimination.specs.Places.{writes, Stands}
use Rattle.elimination.specs.Progress.{Written}
use Rattle.rule.specs.declared.Rule.{Rule}
use Rattle.third_demand.specs.Grid.{SolutionBy, OptimalBy, held_row, count_by}
use Rattle.score_table.specs.ScoreTable.{rows_after, row_a, row_b, unit_place, two_layer_place}
use Rattle.board_rows.specs.Rows.{read_row}
use Rattle.job_kind.specs.Kinds.{halves_of, has_target, refills, kind_digits, plan_of, shape_of}
use Rattle.job.specs.Jobs.{above_of, last_of, live_of, mark_of}
use Rattle.job.specs.Calls.{Opens}
use Rattle.job_kind.specs.declared.Kind.{Kind}
use Rattle.job.specs.declared.Job.{Job}
use Rattle.service.specs.Demand.{Demand}
use Rattle.service.specs.JobKinds.{JobKind, aim_of}
use Rattle.third_demand.specs.Units.{State, grid_rows, setup_of, grid}
use Rattle.board.specs.declared.Refusal.{Refusal}

-- a job of this kind, rule and grid
pub record Of (kind : Kind) (rule : Rule) (w h : ℕ) (j : Job) : Type 0 where
  pub kept : j.kind ≡ kind
  pub ruled : j.rule ≡ rule
  pub wide : j.width ≡ w
  pub tall : j.height ≡ h

-- ---- what is done
-- Where the whole table is filled. The right number for unit u of filling: entry (h - rows_after, row_a, row_b) by the rule over right entries.
-- `EntriesRight` of `Theorems` says what a right entry means
unfoldable pub right_unit : Kind → Rule → ℕ → ℕ → List ℕ → ℕ → ℕ
right_unit kind rule w h givens u =
    right_entry (grid_rows kind rule w h givens) (rows_after (kind_digits kind w) u) (row_a (kind_digits kind w) u) (row_b (kind_digits kind w) u)

-- the first n entries in filling order are right, and every other place of the table holds what it held
pub record FilledTo (kind : Kind) (rule : Rule) (w h : ℕ) (givens : List ℕ) (n : ℕ) (before now : List ℕ) : Type 0 where
  pub size : length now ≡ length before
  pub right : (u : ℕ) → u < n → get_or now (unit_place (kind_digits kind w) h u) 0 ≡ right_unit kind rule w h givens u
  pub rest : (p : ℕ) → ((u : ℕ) → u < n → p ≡ unit_place (kind_digits kind w) h u → ⊥) → get_or now p 0 ≡ get_or before p 0

-- Two layers: an entry that one of the first u units filled, and over which none of them wrote since, stands in its layer's half, where the half of layer i
-- is the one numbered i modulo 2, and is right; every place that none of them wrote holds what it held, among them all past the two halves.
pub record TwoLayersTo (rule : Rule) (w h : ℕ) (givens : List ℕ) (u : ℕ) (before now : List ℕ) : Type 0 where
  pub size : length now ≡ length before
  pub stands : (p k j : ℕ) → Stands (plan_of Kind.TwoLayers w h) u p k j → p ≡ two_layer_place w (h - k) (j / 2 ^ w) (j % 2 ^ w)
  pub right : (p k j : ℕ) → Stands (plan_of Kind.TwoLayers w h) u p k j
      → get_or now p 0 ≡ right_entry (grid_rows Kind.TwoLayers rule w h givens) k (j / 2 ^ w) (j % 2 ^ w)
  pub rest : (p : ℕ) → ((v : ℕ) → v < u → writes (plan_of Kind.TwoLayers w h v) p ≡ false) → get_or now p 0 ≡ get_or before p 0
  pub past : (p : ℕ) → 2 * 4 ^ w ≤ p → get_or now p 0 ≡ get_or before p 0

-- what the table holds after u units, by whether it holds two layers, which are filled again before each row
abbrev pub TableBy : Bool → Kind → Rule → ℕ → ℕ → List ℕ → ℕ → List ℕ → List ℕ → Type 0
TableBy true kind rule w h givens u before now = TwoLayersTo rule w h givens u before now
TableBy false kind rule w h givens u before now = FilledTo kind rule w h givens (entries_filled (plan_of kind w h) u) before now

abbrev pub TableAfter : Kind → Rule → ℕ → ℕ → List ℕ → ℕ → List ℕ → List ℕ → Type 0
TableAfter kind = TableBy (refills kind) kind

-- the entries written, each counted as often as it is written; the rows chosen; and the one unit of a job that ended with none, which writes and chooses
-- nothing
abbrev pub entries_written : Kind → ℕ → ℕ → Job → ℕ
entries_written kind w h j = entries_filled (plan_of kind w h) j.units

abbrev pub chosen_rows : Kind → ℕ → ℕ → Job → ℕ
chosen_rows kind w h j = rows_chosen (shape_of kind w h) j.units (mark_of j.stage)

abbrev pub idle_units : Job → ℕ
idle_units j = cond (eqb (mark_of j.stage) 2) 1 0

-- the job is still of the opened kind, rule and grid, and the units done are the entries written and the rows chosen
pub record Progress (kind : Kind) (rule : Rule) (w h : ℕ) (givens wanted : List ℕ) (before now : State) : Type 0 where
  pub of : Of kind rule w h now.job
  pub units : now.job.units ≡ entries_written kind w h now.job + chosen_rows kind w h now.job + idle_units now.job
  pub filled : TableAfter kind rule w h givens now.job.units before.table now.table
  pub written : Written w (chosen_rows kind w h now.job) wanted before.board now.board
  -- with k rows chosen, row above is row k - 1 of the wanted board and last row is row k, each as the kind holds it, and 0 until such a row is chosen; the
  -- live cells so far are what its first k rows count
  pub above : above_of now.job.stage ≡ held_row (halves_of kind) w h wanted (chosen_rows kind w h now.job - 1)
  pub last : last_of now.job.stage ≡ held_row (halves_of kind) w h wanted (chosen_rows kind w h now.job)
  pub live : live_of now.job.stage ≡ count_by (has_target kind) w (chosen_rows kind w h now.job) givens wanted

-- ---- the claim
-- What the jobs of one kind, rule and grid come to: the best board, of a mirror job the best mirror board, among the best the one whose rows are greatest,
-- row 1 first, and its score, the live cells that were free (`SameBest` of `Theorems`: it is the best by all live cells too). With a target: the board
-- with the fewest live cells among those that step to it, among these the one whose rows are smallest, and how many it has.
abbrev pub grid_kind : Kind → Rule → ℕ → ℕ → List ℕ → JobKind
grid_kind kind rule w h givens = record {
  setup = setup_of kind rule w h givens;
  shape = shape_of kind w h;
  width = w;
  cells = w * h;
  read = read_row (kind_digits kind w) w;
  Of = Of kind rule w h;
  Solution = SolutionBy kind rule w h givens;
  Wanted = OptimalBy kind rule w h givens;
  score = count_by (has_target kind) w h givens;
  Progress = Progress kind rule w h givens;
}

-- every kind, rule, width, height and givens or target that opening takes, every table and board contents and lengths, every list of calls
unfoldable pub ThirdDemand : Type 0
ThirdDemand =
    (kind : Kind) (rule : Rule) (w h : ℕ) (givens table board : List ℕ) (r : Result Job Refusal) (j : Job) → Opens kind rule w h givens r → r ≡ Ok j
    → Demand grid (aim_of (grid_kind kind rule w h givens)) givens (record { job = j; table = table; board = board })
