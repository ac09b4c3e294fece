-- Req 03, of a unit of any kind of job: which bytes of the lent board it changes, and what the row that it chooses reads as.
-- Assumes nothing.
use Rattle.std.specs.Prelude.{◌≡◌, true, List, ◌⊎◌, ℕ, suc}
use Rattle.board.specs.Answers.{Answer, passed}
use Rattle.elimination.specs.Rows.{OnlyRow}
use Rattle.job.specs.Jobs.{job_fits, last_of}
use Rattle.job.specs.declared.Stage.{Stage}
use Rattle.job.specs.declared.Job.{Job}
use Rattle.service.specs.Service.{State, Step, next}
use Rattle.service.specs.JobKinds.{JobKind, rows_in, KindLaws}

-- A row is chosen, below those chosen before: no byte of the board outside it changes, and it then reads as the last row that the job carries.
pub record RowChosen (K : JobKind) (s s' : State (List ℕ)) : Type 0 where
  pub more : rows_in K s'.job ≡ suc (rows_in K s.job)
  pub only : OnlyRow K.width (rows_in K s.job) s.board s'.board
  pub reads : K.read (rows_in K s.job) s'.board ≡ last_of s'.job.stage

-- By the stage before the unit: one of filling changes no byte of the board; one of choosing chooses a row, or ends the job with none and changes no
-- byte; an ended job's changes none.
abbrev pub OnBoard : JobKind → Stage → State (List ℕ) → State (List ℕ) → Type 0
OnBoard K (Stage.Filling above last live) s s' = s'.board ≡ s.board
OnBoard K (Stage.Choosing above last live) s s' = RowChosen K s s' ⊎ ((s'.job.stage ≡ Stage.Infeasible) × (s'.board ≡ s.board))
OnBoard K (Stage.Finished above last score) s s' = s'.board ≡ s.board
OnBoard K Stage.Infeasible s s' = s'.board ≡ s.board

-- THE THEOREM: so it is of every unit of a call that passed its checks, for a kind of job that shows its laws
module _ (Given : Type 0) (check : Job → Given → List ℕ → List ℕ → Answer) (unit : Given → State (List ℕ) → Step (List ℕ)) (given : Given) (K : JobKind) where
  abbrev pub UnitOnBoard : Type 0
  UnitOnBoard =
      KindLaws Given check unit given K → (s s' : State (List ℕ)) → K.Of s.job → job_fits s.job ≡ true → check s.job given s.table s.board ≡ passed
      → unit given s ≡ next s' → OnBoard K s.job.stage s s'
