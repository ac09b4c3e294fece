-- A kind of job as data, and the one theorem: what a kind has to show for the third demand to hold of its jobs.
-- Assumes nothing.
use Rattle.std.specs.Prelude.{◌≡◌, true, List, ℕ, suc, ◌*◌, ◌≤◌, ◌<◌, length}
use Rattle.board.specs.Answers.{Answer, passed}
use Rattle.elimination.specs.Endings.{Ending, NoEnding, total, Laws, BestEnding}
use Rattle.elimination.specs.Job.{Setup}
use Rattle.elimination.specs.Plan.{Schedule, Scheduled}
use Rattle.elimination.specs.Completion.{write_rows}
use Rattle.elimination.specs.Places.{Filled, Orderly}
use Rattle.elimination.specs.Shape.{Shape, rows_chosen}
use Rattle.elimination.specs.Rows.{RowWriter}
use Rattle.elimination.specs.Progress.{Written, Carried}
use Rattle.job.specs.Jobs.{job_fits, mark_of, live_of, above_of, last_of}
use Rattle.job.specs.declared.Job.{Job}
use Rattle.service.specs.Service.{finished, State, Step, Service}
use Rattle.service.specs.Demand.{Aim, Demand}
use Rattle.service.specs.Laws.{ChecksSound}
use Rattle.service.specs.Units.{unit_by, Numbered}

-- What a kind of job fixes, for an opened job: its rule, width and height, and what is lent to be read.
pub record JobKind : Type 1 where
  -- the rules of entries and choices, the plan of units, and how a row is written
  pub setup : Setup ℕ (List ℕ)
  -- its numbers: row codes, entries of the table, rows chosen, lengths, the most that a row is worth
  pub shape : Shape
  -- the cells of a row, and of a board; and how a row reads back from them
  pub width : ℕ
  pub cells : ℕ
  pub read : ℕ → List ℕ → ℕ
  -- the jobs of this kind, rule and size
  pub Of : Job → Type 0
  -- the boards among which one is wanted, the one that is, and its score
  pub Solution : List ℕ → Type 0
  pub Wanted : List ℕ → Type 0
  pub score : List ℕ → ℕ
  -- this much is done, on the way to a board
  pub Progress : List ℕ → State (List ℕ) → State (List ℕ) → Type 0

-- the rows that a job has chosen
abbrev pub rows_in : JobKind → Job → ℕ
rows_in K j = rows_chosen K.shape j.units (mark_of j.stage)

-- what its jobs are to come to
pub record Best (K : JobKind) (best : List ℕ) (final : Answer) : Type 0 where
  pub wanted : K.Wanted best
  pub says : final ≡ finished (K.score best)

abbrev pub aim_of : JobKind → Aim (List ℕ)
aim_of K = record {
  Solution = K.Solution;
  Wanted = Best K;
  board_length = K.shape.board_length;
  none_length = K.shape.none_length;
  Progress = K.Progress;
}

-- a service whose table is one list of numbers
abbrev pub service_of : (Given : Type 0) → (Job → Given → List ℕ → List ℕ → Answer) → (Given → State (List ℕ) → Step (List ℕ)) → Service
service_of Given check unit = record { Given = Given; Table = List ℕ; check = check; unit = unit }

module _ (Given : Type 0) (check : Job → Given → List ℕ → List ℕ → Answer) (unit : Given → State (List ℕ) → Step (List ℕ)) (given : Given) (K : JobKind) where
  -- what a kind of job has to show
  pub record KindLaws : Type 0 where
    -- row elimination: worths are ordered and counted; the plan reads what it has written, and follows its course
    pub laws : Laws K.setup.kind K.setup.height
    pub high : 0 < K.setup.height
    pub wide : 0 < K.setup.kind.codes
    pub orderly : Orderly K.setup.kind.codes K.setup.height K.shape.entries K.shape.board_length K.setup.plan
    pub course : Schedule
    pub scheduled : Scheduled K.setup.height K.setup.plan course
    pub length_board : course.start K.setup.height ≡ K.shape.board_length
    pub length_none : suc (course.work 0) ≡ K.shape.none_length
    pub shorter : K.shape.none_length ≤ K.shape.board_length
    -- the call: its numbers are of the shape, its units are the setup's, its checks leave room
    pub numbered : Numbered K.setup K.shape K.Of
    pub units : (s : State (List ℕ)) → K.Of s.job → unit given s ≡ unit_by K.setup s
    pub checks : ChecksSound (service_of Given check unit)
    pub room : (j : Job) (t β : List ℕ) → K.Of j → check j given t β ≡ passed → (length β ≡ K.cells) × (K.shape.entries ≤ length t)
    pub zero_start : K.setup.kind.start ≡ 0
    -- boards: they are their rows, each written within its cells and read back from them; an ending's rows make one board wherever they are written,
    -- and the wanted ending the wanted board
    pub all_rows_lem : K.setup.height * K.width ≡ K.cells
    pub writer : RowWriter K.width K.setup.kind.codes K.setup.write K.read
    pub board_of : List ℕ → List ℕ
    pub into : (rows : List ℕ) → Ending K.setup.kind K.setup.height 0 0 rows → (β : List ℕ) → length β ≡ K.cells
        → write_rows K.setup.write 0 rows β ≡ board_of rows
    pub best : (x : ℕ) (rows : List ℕ) → BestEnding K.setup.kind K.setup.height 0 0 x rows
        → K.Wanted (board_of rows) × (K.score (board_of rows) ≡ total K.setup.kind rows)
    pub none : NoEnding K.setup.kind K.setup.height 0 0 → (board : List ℕ) → K.Solution board → ⊥
    -- what is done, in the kind's own words, from what m units have done to table and board and from the rows and the worth that the job then carries;
    -- once a row is chosen, the board that it is on the way to is the wanted one
    pub progress : (wanted : List ℕ) (before now : State (List ℕ)) → K.Of now.job → job_fits now.job ≡ true
        → (0 < rows_in K now.job → K.Wanted wanted)
        → Filled K.setup.kind K.setup.plan now.job.units before.table now.table
        → Written K.width (rows_in K now.job) wanted before.board now.board
        → Carried K.setup K.read (rows_in K now.job) wanted (above_of now.job.stage) (last_of now.job.stage) (live_of now.job.stage)
        → K.Progress wanted before now

  -- a job as it was opened: at unit 0, running, with no rows
  pub record Fresh (s : State (List ℕ)) : Type 0 where
    pub of : K.Of s.job
    pub fits : job_fits s.job ≡ true
    pub units : s.job.units ≡ 0
    pub mark : mark_of s.job.stage ≡ 0
    pub above : above_of s.job.stage ≡ 0
    pub last : last_of s.job.stage ≡ 0
    pub live : live_of s.job.stage ≡ 0

  -- THE THEOREM: a kind of job that shows this meets the third demand
  abbrev pub KindMeetsDemand : Type 0
  KindMeetsDemand = KindLaws → (s : State (List ℕ)) → Fresh s → Demand (service_of Given check unit) (aim_of K) given s
