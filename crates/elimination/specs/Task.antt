-- What one unit of a job does: it fills an entry of the table or chooses a row; and what such units leave in the table.
-- Assumes nothing.
use Rattle.std.specs.Prelude.{Bool, true, false, List, ℕ, zero, suc, ◌+◌}
use Rattle.elimination.specs.Kind.{Kind}
use Rattle.elimination.specs.Table.{fill_entry}

-- `fill k source target j`: entry j of the layer that starts at `target` and has k rows after it, by the layer that starts at `source`.
-- `row r source`: row r, counted from 0, by its layer, which starts at `source`.
pub data Task : Type 0 where
  fill : ℕ → ℕ → ℕ → ℕ → Task
  row : ℕ → ℕ → Task

-- the task fills an entry
abbrev pub is_fill : Task → Bool
is_fill (fill k source target j) = true
is_fill (row r source) = false

module _ {X : Type 0} (G : Kind X) where
  -- the table after a task
  abbrev pub fill_task : Task → List X → List X
  fill_task (fill k source target j) t = fill_entry G k source target j t
  fill_task (row r source) t = t

  -- the table after the m tasks of a plan from unit u on
  unfoldable pub after_tasks : (ℕ → Task) → ℕ → ℕ → List X → List X
  after_tasks plan u zero t = t
  after_tasks plan u (suc m) t = fill_task (plan (u + m)) (after_tasks plan u m t)
