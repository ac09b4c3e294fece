-- Document 01, "A job and its units": a job unit by unit, with the table and the board that it is lent, by a plan that says what each unit does.
-- Rows are counted from 0: row r here is document 01's row r + 1.
-- Assumes nothing.
use Rattle.std.specs.Prelude.{◌≡◌, Bool, true, false, cond, List, ℕ, zero, suc, ◌-◌, ltb}
use Rattle.elimination.specs.Candidates.{Choice, nothing, chosen}
use Rattle.elimination.specs.Kind.{Kind, choose}
use Rattle.elimination.specs.Table.{reads, fill_entry}
use Rattle.elimination.specs.Task.{Task, fill, row}
use Rattle.elimination.specs.Machine.{Machine}

-- a job's end mark
pub data Mark : Type 0 where
  running finished infeasible : Mark

-- a job with the table and the board that it is lent: units done, row above, last row, worth of the rows so far, end mark
pub record State (X B : Type 0) : Type 0 where
  pub units : ℕ
  pub above : ℕ
  pub last : ℕ
  pub so_far : X
  pub mark : Mark
  pub table : List X
  pub board : B

-- what a job is set up with
pub record Setup (X B : Type 0) : Type 0 where
  -- what the job's kind fixes
  pub kind : Kind X
  -- the rows of a board
  pub height : ℕ
  -- the board once row r, counted from 0, is c
  pub write : ℕ → ℕ → B → B
  -- what each unit does
  pub plan : ℕ → Task

-- the mark says that the job has ended
abbrev pub end_mark : Mark → Bool
end_mark running = false
end_mark finished = true
end_mark infeasible = true

-- the mark's number
abbrev pub mark_number : Mark → ℕ
mark_number running = 0
mark_number finished = 1
mark_number infeasible = 2

module _ {X B : Type 0} where
  -- the job has ended
  abbrev pub ended : State X B → Bool
  ended s = end_mark s.mark

  -- the units done
  abbrev pub done : State X B → ℕ
  done s = s.units

  -- the job at unit 0, over any table and board
  abbrev pub opened : Kind X → List X → B → State X B
  opened G t β = record { units = 0; above = 0; last = 0; so_far = G.start; mark = running; table = t; board = β }

module _ {X B : Type 0} (J : Setup X B) where
  -- the state once row r is chosen; where no row can be, the job ends at row 0, and stands at a later one (refusal 9)
  abbrev pub take_row : ℕ → State X B → Choice X → State X B
  take_row r s (chosen c v) = record {
    units = suc s.units;
    above = s.last;
    last = c;
    so_far = J.kind.add (J.height - suc r) c s.so_far;
    mark = cond (ltb (suc r) J.height) running finished;
    table = s.table;
    board = J.write r c s.board;
  }
  take_row zero s nothing = record {
    units = suc s.units;
    above = s.above;
    last = s.last;
    so_far = s.so_far;
    mark = infeasible;
    table = s.table;
    board = s.board;
  }
  take_row (suc r) s nothing = s

  -- a task of a running job
  abbrev pub act : Task → State X B → State X B
  act (fill k source target j) s = record {
    units = suc s.units;
    above = s.above;
    last = s.last;
    so_far = s.so_far;
    mark = s.mark;
    table = fill_entry J.kind k source target j s.table;
    board = s.board;
  }
  act (row r source) s = take_row r s (choose J.kind (J.height - suc r) s.above s.last (reads J.kind s.table source s.last))

  -- a task, by the job's mark: an ended job stays as it is
  abbrev pub act_if : Mark → Task → State X B → State X B
  act_if running task s = act task s
  act_if finished task s = s
  act_if infeasible task s = s

  -- one unit
  unfoldable pub unit : State X B → State X B
  unit s = act_if s.mark (J.plan s.units) s

  -- the job as a machine that works in units
  abbrev pub machine : Machine (State X B)
  machine = record { unit = unit; ended = ended; done = done }

  -- an ended job stays as it is
  abbrev pub EndedStays : Type 0
  EndedStays = (s : State X B) → ended s ≡ true → unit s ≡ s
