-- What the inner functions answer, in the terms of a unit.
-- Assumes nothing.
use Rattle.std.specs.Prelude.{◌≡◌, List, ℕ, None, Option, Some}
use Rattle.service.specs.Service.{next, spoiled}
use Rattle.third_demand.specs.Units.{Step, unit_of}
use Rattle.third_demand.specs.Lent.{lent_state}
use Rattle.job.specs.declared.Job.{Job}

abbrev pub step_of : Job → Option Job → List ℕ → List ℕ → Step
step_of j (Some j') table board = next (lent_state j' table board)
step_of j None table board = spoiled

-- only a unit that is done writes
pub record Moves (j : Job) (givens table board : List ℕ) (r : Option Job) (table' board' : List ℕ) : Type 0 where
  pub step : step_of j r table' board' ≡ unit_of givens (lent_state j table board)
  pub spoiled : r ≡ None → (table' ≡ table) × (board' ≡ board)
