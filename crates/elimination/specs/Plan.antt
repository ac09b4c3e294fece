-- When a plan is sound: before it chooses a row, it has made that row's layer right, whatever the table held.
-- Assumes nothing.
use Rattle.std.specs.Prelude.{◌≡◌, true, List, ℕ, suc, ◌+◌, ◌-◌, ◌<◌}
use Rattle.elimination.specs.Kind.{Kind}
use Rattle.elimination.specs.Table.{RightLayer}
use Rattle.elimination.specs.Task.{Task, row, is_fill, after_tasks}

-- a plan's course, for rows counted from 0
pub record Schedule : Type 0 where
  -- the unit at which the filling before row r starts
  pub start : ℕ → ℕ
  -- how many entries are filled before row r is chosen
  pub work : ℕ → ℕ
  -- where row r's layer starts in the table when row r is chosen
  pub source : ℕ → ℕ

-- the plan follows the schedule, for boards of h rows: before row r it fills, then it chooses row r
pub record Scheduled (h : ℕ) (plan : ℕ → Task) (S : Schedule) : Type 0 where
  pub first : S.start 0 ≡ 0
  pub next : (r : ℕ) → S.start (suc r) ≡ suc (S.start r + S.work r)
  pub fills : (r m : ℕ) → r < h → m < S.work r → is_fill (plan (S.start r + m)) ≡ true
  pub chooses : (r : ℕ) → r < h → plan (S.start r + S.work r) ≡ row r (S.source r)

module _ {X : Type 0} (G : Kind X) where
  -- the table after the filling before row r
  abbrev pub after_filling : (ℕ → Task) → Schedule → ℕ → List X → List X
  after_filling plan S r t = after_tasks G plan (S.start r) (S.work r) t

  -- From a table that is ready for row r, which is what the plan needs of it, row r's layer is right once filled, and the table is then ready for
  -- the next row.
  pub record SoundPlan (h : ℕ) (plan : ℕ → Task) (S : Schedule) : Type 1 where
    pub scheduled : Scheduled h plan S
    pub Ready : ℕ → List X → Type 0
    pub right : (r : ℕ) (t : List X) → r < h → Ready r t → RightLayer G (after_filling plan S r t) (S.source r) (h - suc r)
    pub again : (r : ℕ) (t : List X) → r < h → Ready r t → Ready (suc r) (after_filling plan S r t)
