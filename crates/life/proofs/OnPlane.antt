-- Laws of a board on the plane: which rows and columns are dead, where a cell stands, and that a cell is 0 or 1.
-- Assumes nothing.
use mathlib.Core.Path.{◌≡◌, refl}
use mathlib.Core.Bool.{Bool, true, false, cond, ◌&&◌}
use mathlib.Core.List.{List}
use Prim.Native.Nat.{ℕ, zero, suc, ◌+◌, ◌*◌, ◌-◌, ◌<◌, ◌≤◌}
use native.Mathlib.Nat.{not-suc-le-zero, mul_comm, le_of_suc-le-suc}
use native.Mathlib.Numerals.{add-one, add-two}
use native.Mathlib.Omega.{arith}
use lib.Arith.{digits_lt}
use lib.IntN.{ℤ, pos, negsuc, suc_ℤ, pred_ℤ}
use lib.ListN.{length, get_or, get_or-eq_default}
use native.Mathlib.Decide.{dec_lt}
use Rattle.board.specs.Boards.{among, Bytes}
use Rattle.board.proofs.Tests.{among_past, and_false, byte_at_lem}
use Rattle.life.specs.Plane.{on_plane, around}

-- ---- rows and columns off the board
pub data Off (n : ℕ) : ℤ → Type 0 where
  before : (k : ℕ) → Off n (negsuc k)
  nought : Off n (pos 0)
  past : (k : ℕ) → n < k → Off n (pos k)

module _ (w h : ℕ) (cells : List ℕ) where
  pub off_row : {r : ℤ} → Off h r → (c : ℤ) → on_plane w h cells r c ≡ 0
  unfolding on_plane
  off_row (before k) c = refl
  off_row nought (pos c) = refl
  off_row nought (negsuc c) = refl
  off_row (past k l) (pos c) = rw (among_past h k l)
  off_row (past k l) (negsuc c) = refl

  pub off_column : {c : ℤ} → Off w c → (r : ℤ) → on_plane w h cells r c ≡ 0
  unfolding on_plane
  off_column (before k) (pos r) = refl
  off_column (before k) (negsuc r) = refl
  off_column nought (pos r) = rw (and_false (among h r))
  off_column nought (negsuc r) = refl
  off_column (past k l) (pos r) = rw (among_past w k l, and_false (among h r))
  off_column (past k l) (negsuc r) = refl

  -- a cell of the board
  pub on_board : (r c : ℕ) → r < h → c < w → on_plane w h cells (pos (suc r)) (pos (suc c)) ≡ get_or cells (r * w + c) 0
  unfolding on_plane
  on_board r c p q =
      let e : suc r - 1 ≡ r = omega arith in
      let f : suc c - 1 ≡ c = omega arith in
      rw (byte_at_lem w h cells (suc r) (suc c) (omega arith) p (omega arith) q, e, f)

-- one before a number that stands off the board
pub off_low : (n i : ℕ) → i < 2 → Off n (pred_ℤ (pos i))
off_low n zero l = before 0
off_low n (suc zero) l = nought
off_low n (suc (suc i)) l = absurd (not-suc-le-zero (le_of_suc-le-suc (le_of_suc-le-suc l)))

pub off_high : (n i : ℕ) → n + 1 < i → Off n (pred_ℤ (pos i))
off_high n zero l = absurd (not-suc-le-zero l)
off_high n (suc i) l = past i (omega arith)

-- one before a number that stands on the board
pub pred_two : (i : ℕ) → 2 ≤ i → pred_ℤ (pos i) ≡ pos (suc (i - 2))
pred_two zero l = absurd (not-suc-le-zero l)
pred_two (suc zero) l = absurd (not-suc-le-zero (le_of_suc-le-suc l))
pred_two (suc (suc i)) l = let e : suc (suc i) - 2 ≡ i = omega arith in rw e

pub pred_one : (i : ℕ) → pred_ℤ (pos (i + 1)) ≡ pos i
pred_one i = rw (add-one i)

pub pred_one_more : (i : ℕ) → pred_ℤ (pos (i + 2)) ≡ suc_ℤ (pos i)
pred_one_more i = rw (add-two i)

-- a cell of the board, counted from one before the ring
pub on_board_at : (w h : ℕ) (cells : List ℕ) (i j : ℕ) → 2 ≤ i → i ≤ h + 1 → 2 ≤ j → j ≤ w + 1
    → on_plane w h cells (pred_ℤ (pos i)) (pred_ℤ (pos j)) ≡ get_or cells ((i - 2) * w + (j - 2)) 0
on_board_at w h cells i j p q s t = rw (pred_two i p, pred_two j s) (on_board w h cells (i - 2) (j - 2) (omega arith) (omega arith))

-- ---- cells are 0 or 1
module _ {w h : ℕ} {cells : List ℕ} (b : Bytes 1 w h cells) where
  pub state_small : (k : ℕ) → get_or cells k 0 ≤ 1
  state_small k =
      elim (dec_lt k (length cells)) [
        | yes l ↦ b.states k l
        | no n ↦ let e : get_or cells k 0 ≡ 0 = get_or-eq_default cells 0 (omega arith) in omega arith
      ]

  pub plane_small : (r c : ℤ) → on_plane w h cells r c ≤ 1
  unfolding on_plane
  plane_small (pos r) (pos c) = go (among h r && among w c)
    where
      go : (t : Bool) → cond t (get_or cells ((r - 1) * w + (c - 1)) 0) 0 ≤ 1
      go true = state_small ((r - 1) * w + (c - 1))
      go false = omega arith
  plane_small (pos r) (negsuc c) = omega arith
  plane_small (negsuc r) c = omega arith

  -- a cell's place is within the board
  pub place_within : {r c : ℕ} → r < h → c < w → r * w + c < length cells
  place_within {r} {c} p q = let l = digits_lt {q = r} {m = h} {r = c} {c = w} p q in omega (arith, b.long, mul_comm w h)

  -- the pattern around a cell is one of 512
  pub around_small : (r c : ℤ) → around (on_plane w h cells) r c < 512
  unfolding around
  around_small r c =
      omega (
        arith,
        plane_small (pred_ℤ r) (pred_ℤ c),
        plane_small (pred_ℤ r) c,
        plane_small (pred_ℤ r) (suc_ℤ c),
        plane_small r (pred_ℤ c),
        plane_small r c,
        plane_small r (suc_ℤ c),
        plane_small (suc_ℤ r) (pred_ℤ c),
        plane_small (suc_ℤ r) c,
        plane_small (suc_ℤ r) (suc_ℤ c),
      )
