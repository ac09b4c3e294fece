-- `solver::work` meets its contract: its checks, and then its units.
-- Assumes nothing.
use mathlib.Core.Path.{sym, ◌∙◌, ap}
use Rattle.board.proofs.Answers.{let_through}
use Rattle.board.specs.Answers.{check_says}
use Rattle.service.specs.Service.{work_of}
use Rattle.third_demand.proofs.CheckLaws.{lent_of}
use Rattle.solver.proofs.work.Goals as goal

pub work_on-requires : goal.work_on-requires
work_on-requires c = lent_of _ _ _ _ (let_through c.check_work.ensures c.in-Ok.is)

pub returns-in-Err : goal.returns-in-Err
unfolding work_of
returns-in-Err c = record { is = rw (sym c.check_work.ensures ∙ ap check_says c.in-Err.is) }

pub returns-in-Ok : goal.returns-in-Ok
unfolding work_of
returns-in-Ok c = record { is = rw (let_through c.check_work.ensures c.in-Ok.is) c.work_on.ensures }
