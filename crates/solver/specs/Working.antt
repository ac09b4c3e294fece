-- Document 01, "A job and its units" and "Turned away": what a working call answers.
-- Assumes nothing.
use Rattle.std.specs.Prelude.{Result, Ok, Err}
use Rattle.board.specs.Answers.{Answer, refusal_says}
use Rattle.board.specs.declared.Refusal.{Refusal}
use Rattle.service.specs.Service.{unfinished, finished, infeasible}
use Rattle.solver.specs.declared.Status.{Status}

-- the paper's number and values of each answer
abbrev pub status_says : Result Status Refusal → Answer
status_says (Ok Status.Unfinished) = unfinished
status_says (Ok (Status.Finished score)) = finished score
status_says (Ok Status.Infeasible) = infeasible
status_says (Err r) = refusal_says r
