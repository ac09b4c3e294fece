-- `rule::next_state` meets its contract: each arm picks its case of the rule.
-- Assumes nothing.
use mathlib.Core.Path.{◌≡◌}
use Prim.Native.Nat.{ℕ, ◌≤◌, ◌<◌}
use native.Mathlib.Omega.{arith}
use borrow.Author.Tests.{le-leb, lt-leb, ne_eqb}
use Rattle.rule.specs.Rule.{next_state}
use Rattle.rule.proofs.next_state.Goals as goal

-- past the other arms there are four or more
crowded : (live : ℕ) (centre : ℕ) → 1 < live → (live ≡ 2 → ⊥) → (live ≡ 3 → ⊥) → 0 ≡ next_state centre live
crowded live centre l p q = simp (lt-leb live 1 l, ne_eqb live 2 p, ne_eqb live 3 q)

pub returns-in-2 : goal.returns-in-2
returns-in-2 c = rw c.in-2.is

pub returns-in-3 : goal.returns-in-3
returns-in-3 c = rw c.in-3.is

pub returns-in-0-to-1 : goal.returns-in-0-to-1
returns-in-0-to-1 c = let l : c.args.live ≤ 1 = omega arith in simp (le-leb _ 1 l)

pub returns-in-4-to-8 : goal.returns-in-4-to-8
returns-in-4-to-8 c = crowded _ _ c.in-4-to-8.if-live-lt2-own.false c.in-4-to-8.in_default-own.rest.0.1 c.in-4-to-8.in_default-own.rest.1

pub returns-in_default : goal.returns-in_default
returns-in_default c = crowded _ _ c.in_default.if-live-lt2-own.false c.in_default.in_default-own.rest.0.1 c.in_default.in_default-own.rest.1
