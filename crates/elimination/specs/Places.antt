-- What the units of any plan leave in the table: a place holds what the last unit that wrote it had to write, whatever the table held. When a plan
-- is orderly: what a unit reads was written before it. Then it is sound.
-- Assumes nothing.
use Rattle.std.specs.Prelude.{◌≡◌, Bool, false, List, ℕ, suc, ◌+◌, ◌*◌, ◌-◌, ◌≤◌, ◌<◌, eqb, length, get_or}
use Rattle.elimination.specs.Kind.{Kind}
use Rattle.elimination.specs.Table.{right_at}
use Rattle.elimination.specs.Task.{Task, fill, row, after_tasks}
use Rattle.elimination.specs.Plan.{Schedule, Scheduled, SoundPlan}

-- the task writes place p
abbrev pub writes : Task → ℕ → Bool
writes (fill k source target j) p = eqb p (target + j)
writes (row r source) p = false

-- after m units entry j of the layer with k rows after it stands at place p: a unit filled it there, and none wrote there since
pub record Stands (plan : ℕ → Task) (m p k j : ℕ) : Type 0 where
  pub unit : ℕ
  pub source : ℕ
  pub target : ℕ
  pub before : unit < m
  pub fills : plan unit ≡ fill k source target j
  pub place : p ≡ target + j
  pub since : (v : ℕ) → unit < v → v < m → writes (plan v) p ≡ false

module _ {X : Type 0} (G : Kind X) (plan : ℕ → Task) where
  -- t is t₀ after m units: every entry that stands is right, and a place that no unit wrote is as it was
  pub record Filled (m : ℕ) (t₀ t : List X) : Type 0 where
    pub size : length t ≡ length t₀
    pub right : (p k j : ℕ) → Stands plan m p k j → get_or t p G.start ≡ right_at G k j
    pub rest : (p : ℕ) → ((v : ℕ) → v < m → writes (plan v) p ≡ false) → get_or t p G.start ≡ get_or t₀ p G.start

-- In its first `long` units, for boards of h rows, the plan writes within `room` places, and reads only layers that stand whole.
pub record Orderly (codes h room long : ℕ) (plan : ℕ → Task) : Type 0 where
  pub inside : (u k source target j : ℕ) → u < long → plan u ≡ fill k source target j → target + j < room
  pub reads : (u k source target j : ℕ) → u < long → plan u ≡ fill (suc k) source target j
      → (i : ℕ) → i < codes * codes → Stands plan u (source + i) k i
  pub chooses : (u r source : ℕ) → u < long → plan u ≡ row r source
      → (i : ℕ) → i < codes * codes → Stands plan u (source + i) (h - suc r) i

module _ {X : Type 0} (G : Kind X) where
  -- THE TABLE INVARIANT of any orderly plan, after any of its units, from any contents
  abbrev pub TableFilled : Type 0
  TableFilled = (h room long : ℕ) (plan : ℕ → Task) → Orderly G.codes h room long plan → 0 < G.codes
      → (t₀ : List X) → room ≤ length t₀ → (m : ℕ) → m ≤ long → Filled G plan m t₀ (after_tasks G plan 0 m t₀)

  -- an orderly plan that follows a schedule is sound; a table with room for it is ready for the first row
  abbrev pub OrderlySound : Type 1
  OrderlySound = (h room long : ℕ) (plan : ℕ → Task) (S : Schedule) → Orderly G.codes h room long plan → Scheduled h plan S → S.start h ≤ long → 0 < G.codes
      → (P : SoundPlan G h plan S) × ((t : List X) → room ≤ length t → P.Ready 0 t)
