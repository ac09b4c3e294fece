-- `job::numbers::rows_chosen` meets its contract: the rows chosen are the round.
-- Assumes nothing.
use mathlib.Core.Path.{◌≡◌, refl, sym}
use Prim.Native.Nat.{ℕ, ◌≤◌}
use native.Mathlib.Omega.{arith}
use borrow.Author.Tests.{eq-eqb, ne_eqb}
use Rattle.elimination.specs.Shape.{Shape, rows_chosen}
use Rattle.elimination.proofs.Shape.{Units, runs, ends, fails, units_at}
use Rattle.job.proofs.Rounds.{rows_round}
use Rattle.job.proofs.numbers.rows_chosen.Goals as goal

-- units that fit a mark other than 2 are at most the length
within : {S : Shape} {units mark : ℕ} → Units S units mark → (mark ≡ 2 → ⊥) → units ≤ S.board_length
within (runs l) n = omega arith
within (ends e) n = omega arith
within (fails e) n = absurd (n refl)

pub returns-then-mark-eq2 : goal.returns-then-mark-eq2
unfolding rows_chosen
returns-then-mark-eq2 c = simp (eq-eqb _ 2 c.if-mark-eq2.true) (refl, omega arith)

pub returns-else-mark-eq2 : goal.returns-else-mark-eq2
unfolding rows_chosen
returns-else-mark-eq2 c =
    let p = c.requires in
    simp (ne_eqb _ 2 c.if-mark-eq2.false) (sym (rows_round p.1 p.0 (within (units_at _ _ _ p.2) c.if-mark-eq2.false)), p.1.at.rows)
