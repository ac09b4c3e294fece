-- What a working call's checks turn away, and what they leave for its units.
-- Assumes nothing.
use Rattle.std.specs.Prelude.{◌≡◌, true, List, [], ℕ, ◌*◌, ◌≤◌, ◌<◌, length}
use Rattle.board.specs.Answers.{passed, refuses}
use Rattle.board.specs.Checks.{table_size}
use Rattle.elimination.specs.Task.{row}
use Rattle.job_kind.specs.Kinds.{kind_digits, layers_of, shape_of, read_check}
use Rattle.job.specs.Jobs.{mark_of, job_fits}
use Rattle.job.specs.declared.Job.{Job}
use Rattle.third_demand.specs.Units.{State, lent_check}

abbrev pub lent_state : Job → List ℕ → List ℕ → State
lent_state j table board = record { job = j; table = table; board = board }

-- what the checks of a working call leave for its units
pub record Lent (j : Job) (givens table board : List ℕ) : Type 0 where
  pub taken : job_fits j ≡ true
  pub marks : length givens ≡ j.width * j.height
  pub cells : length board ≡ j.width * j.height
  pub entries : table_size (kind_digits j.kind j.width) (layers_of j.kind j.height) ≤ length table

-- and where row r is to be chosen, by the layer that starts at `source`
pub record Chooses (j : Job) (r source : ℕ) (givens table board : List ℕ) : Type 0 where
  pub lent : Lent j givens table board
  pub running : mark_of j.stage ≡ 0
  pub task : (shape_of j.kind j.width j.height).plan j.units ≡ row r source

-- Working's checks after 7 are opening's of what is read, then 5, then 6, so these are all their answers: where what is read is refused, it is refused
-- alike; then 5 where the board hasn't w × h cells; then 6 where the table hasn't room for the layers of the job's kind; else they pass.
pub record LentChecks (j : Job) (givens table board : List ℕ) : Type 0 where
  pub reads : {n : ℕ} {values : List ℕ} → read_check j.kind j.rule j.width j.height givens ≡ refuses n values → lent_check j givens table board ≡ refuses n values
  pub cells : read_check j.kind j.rule j.width j.height givens ≡ passed → (length board ≡ j.width * j.height → ⊥) → lent_check j givens table board ≡ refuses 5 []
  pub entries : read_check j.kind j.rule j.width j.height givens ≡ passed
      → length board ≡ j.width * j.height → length table < table_size (kind_digits j.kind j.width) (layers_of j.kind j.height)
      → lent_check j givens table board ≡ refuses 6 []
  pub passes : read_check j.kind j.rule j.width j.height givens ≡ passed
      → length board ≡ j.width * j.height → table_size (kind_digits j.kind j.width) (layers_of j.kind j.height) ≤ length table
      → lent_check j givens table board ≡ passed
