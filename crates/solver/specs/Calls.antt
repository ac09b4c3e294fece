-- Document 01, "A job and its units" and "Turned away": what working answers and leaves, for every input.
-- Assumes nothing.
use Rattle.std.specs.Prelude.{◌≡◌, List, ℕ}
use Rattle.job.specs.declared.Job.{Job}
use Rattle.service.specs.Service.{work_of}
use Rattle.service.specs.Service as Shared
use Rattle.solver.specs.Working.{status_says}
use Rattle.third_demand.specs.Units.{grid}
use Rattle.solver.specs.declared.Worked.{Worked}

abbrev pub Result : Type 0
Result = Shared.Result (List ℕ)

-- what `work` hands back and leaves, in the paper's terms
abbrev pub result_of : Worked → List ℕ → List ℕ → Result
result_of r table board = record { answer = status_says r.status; state = record { job = r.job; table = table; board = board } }

-- working: the answer, the job, and the table and the board afterwards, for every job value and all slices
pub record Works (j : Job) (givens table board : List ℕ) (allowance : ℕ) (r : Worked) (table' board' : List ℕ) : Type 0 where
  pub is : result_of r table' board' ≡ work_of grid j givens table board allowance
