-- What opening a case answers.
-- Assumes nothing.
use Rattle.std.specs.Prelude.{Result, take, min}
use Rattle.board.specs.declared.Refusal.{Refusal}
use Rattle.job.specs.Calls.{Opens}
use Rattle.job.specs.declared.Job.{Job}
use Rattle.trials.specs.declared.cases.Case.{Case}

-- a job of its size's kind is opened under its rule, for as many of its givens as the size has cells, and there is room for
abbrev pub CaseOpens : Case → Result Job Refusal → Type 0
CaseOpens c r = Opens c.size.kind c.rule c.size.w c.size.h (take (min c.size.cells 128) c.givens) r
