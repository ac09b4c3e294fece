-- The dead board is the fewest of a dead target: it steps to itself, and a board with no live cell is it. A 1 by 1 live target has no predecessor: the
-- one cell has no live neighbour, and under Conway's rule is dead after the step.
-- Assumes nothing.
use mathlib.Core.Path.{◌≡◌, refl, sym, ◌∙◌, ap₂}
use mathlib.Core.Bool.{Bool, true, false, cond, ◌&&◌}
use mathlib.Core.List.{List}
use mathlib.Core.Logic.{inl, ⊎_elim}
use Prim.Native.Nat.{ℕ, zero, suc, ◌+◌, ◌*◌, ◌-◌, ◌≤◌, ◌<◌}
use native.Mathlib.Omega.{arith}
use lib.Dec.{eqb}
use lib.IntN.{ℤ, pos, negsuc, suc_ℤ, pred_ℤ}
use lib.ListN.{get_or, replicate, length-replicate}
use lib.Seq.{ext_get_or}
use Rattle.board.specs.Boards.{among, Bytes}
use Rattle.board.specs.Sums.{total}
use Rattle.board.proofs.Sums.{total_le}
use Rattle.elimination.proofs.Numbers.{eq_or_lt_of_lt_suc}
use Rattle.rule.specs.Rule.{Allowed, state_under}
use Rattle.rule.specs.declared.Rule.{Rule}
use Rattle.life.specs.Plane.{Plane, on_plane, neighbours, LeadsTo}
use Rattle.third_demand.specs.Grid.{population}
use Rattle.known.specs.Known.{DeadTarget, LiveTarget}

-- a sum of 0 is of noughts
all_nought : (f : ℕ → ℕ) (n : ℕ) → total f n ≡ 0 → (k : ℕ) → k < n → f k ≡ 0
unfolding total
all_nought f zero e k l = absurd (omega arith)
all_nought f (suc n) e k l =
    ⊎_elim (λ (q : k ≡ n). rw q (omega arith)) (λ (q : k < n). all_nought f n (omega arith) k q) (eq_or_lt_of_lt_suc l)

-- ---- the dead board
abbrev dead : ℕ → ℕ → List ℕ
dead w h = replicate (w * h) 0

dead_cell : (n k : ℕ) → ◌≡◌ {A = ℕ} (get_or (replicate n 0) k 0) 0
dead_cell zero k = refl
dead_cell (suc n) zero = refl
dead_cell (suc n) (suc k) = dead_cell n k

module _ (w h : ℕ) where
  dead_bytes : Bytes 1 w h (dead w h)
  dead_bytes = record { long = length-replicate (w * h) 0; states = λ k l. rw (dead_cell (w * h) k) (omega arith) }

  dead_plane : (r c : ℤ) → on_plane w h (dead w h) r c ≡ 0
  unfolding on_plane
  dead_plane (pos r) (pos c) = go (among h r && among w c)
    where
      go : (t : Bool) → cond t (get_or (dead w h) ((r - 1) * w + (c - 1)) 0) 0 ≡ 0
      go true = dead_cell (w * h) ((r - 1) * w + (c - 1))
      go false = refl
  dead_plane (pos r) (negsuc c) = refl
  dead_plane (negsuc r) c = refl

  dead_population : population w h (dead w h) ≡ 0
  unfolding population
  dead_population =
      let l : population w h (dead w h) ≤ w * h * 0 = total_le (λ p. get_or (dead w h) p 0) 0 (λ p. rw (dead_cell (w * h) p) (omega arith)) (w * h) in
      omega arith

  -- a board with no live cell is the dead board
  none_live : (board : List ℕ) → Bytes 1 w h board → population w h board ≡ 0 → board ≡ dead w h
  unfolding population
  none_live board b e =
      ext_get_or 0 board (dead w h) (b.long ∙ sym (length-replicate (w * h) 0))
      (λ k l. all_nought (λ p. get_or board p 0) (w * h) e k (rw b.long at l) ∙ sym (dead_cell (w * h) k))

-- a plane with no live cell steps to itself
dead_step : (rule : Rule) → Allowed rule → (P : Plane) → ((r c : ℤ) → P r c ≡ 0) → LeadsTo rule P P
unfolding LeadsTo
dead_step rule a P none r c =
    let n : neighbours P r c ≡ 0 =
    omega (
      arith,
      none (pred_ℤ r) (pred_ℤ c),
      none (pred_ℤ r) c,
      none (pred_ℤ r) (suc_ℤ c),
      none r (pred_ℤ c),
      none r (suc_ℤ c),
      none (suc_ℤ r) (pred_ℤ c),
      none (suc_ℤ r) c,
      none (suc_ℤ r) (suc_ℤ c),
    ) in
    ap₂ (state_under rule) (none r c) n ∙ a.none_born_on_0 ∙ sym (none r c)

-- ---- the statements
pub dead_target : DeadTarget
dead_target rule a w h = record {
  solution = record { bytes = dead_bytes w h; leads = dead_step rule a (on_plane w h (dead w h)) (dead_plane w h) };
  unbeaten = λ other S. omega (arith, dead_population w h);
  earliest = λ other S e. inl (none_live w h other S.bytes (e ∙ dead_population w h));
}

pub live_target : LiveTarget
unfolding LeadsTo on_plane
live_target board S = absurd (never (eqb (get_or board 0 0) 0) (S.leads (pos 1) (pos 1)))
  where
    never : (t : Bool) → ◌≡◌ {A = ℕ} (cond t 0 0) 1 → ⊥
    never true e = omega arith
    never false e = omega arith
