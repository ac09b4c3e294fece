-- Document 01, "A job and its units": the plan that fills the whole table, the last layer first, one entry a unit, and then chooses the rows, the
-- first row first. The job's length, and its end.
-- Assumes nothing.
use Rattle.std.specs.Prelude.{◌≡◌, cond, List, ℕ, zero, suc, ◌+◌, ◌-◌, ◌*◌, ◌/◌, ◌%◌, ◌≤◌, ◌<◌, ltb, length}
use Rattle.elimination.specs.Kind.{Kind}
use Rattle.elimination.specs.Endings.{Laws}
use Rattle.elimination.specs.Table.{layer_size}
use Rattle.elimination.specs.Task.{Task, fill, row}
use Rattle.elimination.specs.Job.{Setup}
use Rattle.elimination.specs.Plan.{Schedule}
use Rattle.elimination.specs.Completion.{Completion}

-- unit u of filling, in a table of h layers of q entries: the layer with u / q rows after it reads the layer below it
abbrev pub fill_at : ℕ → ℕ → ℕ → Task
fill_at h q u = fill (u / q) ((h - u / q) * q) ((h - 1 - u / q) * q) (u % q)

-- the place that it writes
unfoldable pub place : ℕ → ℕ → ℕ → ℕ
place h q u = (h - 1 - u / q) * q + u % q

-- row r is chosen by its layer
abbrev pub choose_at : ℕ → ℕ → Task
choose_at q r = row r (r * q)

-- what unit u does, for a board of h rows with q entries to a layer
unfoldable pub plan : ℕ → ℕ → ℕ → Task
plan h q u = cond (ltb u (h * q)) (fill_at h q u) (choose_at q (u - h * q))

-- the unit at which the filling before row r starts
abbrev pub start_of : ℕ → ℕ → ℕ → ℕ
start_of h q zero = 0
start_of h q (suc r) = h * q + suc r

-- the entries filled before row r is chosen: all of them before row 0
abbrev pub fills_before : ℕ → ℕ → ℕ → ℕ
fills_before h q zero = h * q
fills_before h q (suc r) = 0

-- the plan's course: row r's layer starts at r times q
abbrev pub schedule : ℕ → ℕ → Schedule
schedule h q = record { start = start_of h q; work = fills_before h q; source = λ r. r * q }

-- a job's length: where there is a board, and where there is none
pub record Lengths (h q : ℕ) : Type 0 where
  pub board : (schedule h q).start h ≡ h * (q + 1)
  pub none : suc ((schedule h q).work 0) ≡ h * q + 1

module _ {X B : Type 0} (G : Kind X) (h : ℕ) (write : ℕ → ℕ → B → B) where
  -- the job set up with this plan
  abbrev pub fill_then_choose : Setup X B
  fill_then_choose = record { kind = G; height = h; write = write; plan = plan h (layer_size G) }

  -- THE THEOREM of this plan: the job comes to its end, from any table that is long enough and any board
  abbrev pub FillThenChooseCompletes : Type 0
  FillThenChooseCompletes = Laws G h → 0 < h → 0 < G.codes → (t : List X) → h * layer_size G ≤ length t → (β : B)
      → Completion fill_then_choose (schedule h (layer_size G)) t β
