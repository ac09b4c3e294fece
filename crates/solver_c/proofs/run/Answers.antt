-- `solver_c::run` meets its contract. The loop's invariant: the last answer, the job, the table and the board are those of k calls.
-- Assumes nothing.
use mathlib.Core.Path.{◌≡◌, refl, ◌∙◌}
use native.Mathlib.Omega.{arith}
use Rattle.solver_c.proofs.InCalls.{calls_none, calls_more, calls_made}
use Rattle.solver_c.proofs.run.Goals as goal

pub loop-k-init : goal.loop-k-init
loop-k-init c = (calls_none _ _ _, omega arith, refl, refl)

pub loop-k-preserved : goal.loop-k-preserved
loop-k-preserved c =
    let l = c.loop-k in
    (calls_more _ _ _ l.k l.invariant.0 c.work-worked.ensures.is, omega arith, c.work-worked.auto.table ∙ l.invariant.2, c.work-worked.auto.board ∙ l.invariant.3)

pub returns : goal.returns
returns c =
    let l = c.loop-k in
    let all : l.k ≡ c.args.calls = omega arith in
    calls_made l.invariant.0 all c.code_of.ensures
