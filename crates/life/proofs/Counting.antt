-- A step by a rule's table is a step by the neighbour count: the digits of a pattern are its nine cells.
-- Assumes nothing.
use mathlib.Core.Path.{◌≡◌, ap₂}
use Prim.Native.Nat.{ℕ, ◌+◌, ◌*◌, ◌≤◌}
use native.Mathlib.Omega.{arith}
use lib.IntN.{ℤ, suc_ℤ, pred_ℤ}
use Rattle.rule.specs.Rule.{digit, live_around, state_under, next_under}
use Rattle.rule.specs.declared.Rule.{Rule}
use Rattle.life.specs.Plane.{Plane, neighbours, around, table_step, step_under}

-- nine cells, row by row
module _ {a b c d e f g h i : ℕ} (pa : a ≤ 1) (pb : b ≤ 1) (pc : c ≤ 1) (pd : d ≤ 1) (pe : e ≤ 1) (pf : f ≤ 1) (pg : g ≤ 1) (ph : h ≤ 1) (pi : i ≤ 1) where
  abbrev x : ℕ
  x = 64 * (4 * a + 2 * b + c) + 8 * (4 * d + 2 * e + f) + (4 * g + 2 * h + i)

  centre_is : digit x 16 ≡ e
  centre_is = omega arith

  live_is : live_around x ≡ a + b + c + d + f + g + h + i
  live_is =
      let qa : digit x 256 ≡ a = omega arith in
      let qb : digit x 128 ≡ b = omega arith in
      let qc : digit x 64 ≡ c = omega arith in
      let qd : digit x 32 ≡ d = omega arith in
      let qf : digit x 8 ≡ f = omega arith in
      let qg : digit x 4 ≡ g = omega arith in
      let qh : digit x 2 ≡ h = omega arith in
      let qi : digit x 1 ≡ i = omega arith in
      rw (qa, qb, qc, qd, qf, qg, qh, qi)

-- on a plane of dead and live cells
module _ (P : Plane) (small : (r c : ℤ) → P r c ≤ 1) (r c : ℤ) where
  centre : digit (around P r c) 16 ≡ P r c
  unfolding around
  centre =
      centre_is (small (pred_ℤ r) (pred_ℤ c)) (small (pred_ℤ r) c) (small (pred_ℤ r) (suc_ℤ c)) (small r (pred_ℤ c)) (small r c) (small r (suc_ℤ c))
      (small (suc_ℤ r) (pred_ℤ c)) (small (suc_ℤ r) c) (small (suc_ℤ r) (suc_ℤ c))

  live : live_around (around P r c) ≡ neighbours P r c
  unfolding around
  live =
      live_is (small (pred_ℤ r) (pred_ℤ c)) (small (pred_ℤ r) c) (small (pred_ℤ r) (suc_ℤ c)) (small r (pred_ℤ c)) (small r c) (small r (suc_ℤ c))
      (small (suc_ℤ r) (pred_ℤ c)) (small (suc_ℤ r) c) (small (suc_ℤ r) (suc_ℤ c))

  pub by_count : (rule : Rule) → table_step (next_under rule) P r c ≡ step_under rule P r c
  unfolding next_under
  by_count rule = ap₂ (state_under rule) centre live
