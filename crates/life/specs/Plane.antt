-- Life and its like on the whole plane. Rows and columns are integers; a board stands in rows 1 to h and columns 1 to w, and every other cell is dead.
-- Assumes nothing.
use Rattle.std.specs.Prelude.{◌≡◌, List, ℕ, ◌+◌, ◌*◌, ℤ, pos, negsuc}
use Rattle.std.proofs.Math.IntN.{suc_ℤ, pred_ℤ}
use Rattle.board.specs.Boards.{byte_at}
use Rattle.rule.specs.Rule.{state_under, next_state}
use Rattle.rule.specs.declared.Rule.{Rule}

-- a state for each row and column, 0 dead, 1 live
abbrev pub Plane : Type 0
Plane = ℤ → ℤ → ℕ

-- a board of w × h cells in reading order, on the plane; rows 0 and h + 1, columns 0 and w + 1 are the dead ring
unfoldable pub on_plane : ℕ → ℕ → List ℕ → Plane
on_plane w h cells (pos r) (pos c) = byte_at w h cells r c
on_plane w h cells (pos r) (negsuc c) = 0
on_plane w h cells (negsuc r) c = 0

-- the live neighbours of a cell
abbrev pub neighbours : Plane → ℤ → ℤ → ℕ
neighbours P r c =
    P (pred_ℤ r) (pred_ℤ c) + P (pred_ℤ r) c + P (pred_ℤ r) (suc_ℤ c) + P r (pred_ℤ c) + P r (suc_ℤ c) + P (suc_ℤ r) (pred_ℤ c) + P (suc_ℤ r) c
    + P (suc_ℤ r) (suc_ℤ c)

-- one step under a rule
abbrev pub step_under : Rule → Plane → Plane
step_under rule P r c = state_under rule (P r c) (neighbours P r c)

-- one step of Life, by its cases
abbrev pub life_step : Plane → Plane
life_step P r c = next_state (P r c) (neighbours P r c)

-- a still life: one step under the rule changes no cell of the plane
unfoldable pub Still : Rule → Plane → Type 0
Still rule P = (r c : ℤ) → step_under rule P r c ≡ P r c

-- one step under the rule makes the plane P the plane Q
unfoldable pub LeadsTo : Rule → Plane → Plane → Type 0
LeadsTo rule P Q = (r c : ℤ) → step_under rule P r c ≡ Q r c

-- three neighbouring cells of a row, as three digits
abbrev pub three : (ℤ → ℕ) → ℤ → ℕ
three row c = 4 * row (pred_ℤ c) + 2 * row c + row (suc_ℤ c)

-- the 3 by 3 pattern around a cell of the middle of three rows
abbrev pub nine : (ℤ → ℕ) → (ℤ → ℕ) → (ℤ → ℕ) → ℤ → ℕ
nine above row below c = 64 * three above c + 8 * three row c + three below c

-- the 3 by 3 pattern around a cell of the plane
unfoldable pub around : Plane → ℤ → ℤ → ℕ
around P r c = nine (P (pred_ℤ r)) (P r) (P (suc_ℤ r)) c

-- one step by a next-state table of the 512 patterns
abbrev pub table_step : (ℕ → ℕ) → Plane → Plane
table_step next P r c = next (around P r c)

-- one step by the table changes no cell of the plane
unfoldable pub StillBy : (ℕ → ℕ) → Plane → Type 0
StillBy next P = (r c : ℤ) → table_step next P r c ≡ P r c

-- one step by the table makes the plane P the plane Q
unfoldable pub LeadsToBy : (ℕ → ℕ) → Plane → Plane → Type 0
LeadsToBy next P Q = (r c : ℤ) → table_step next P r c ≡ Q r c
