-- Stepping is right on the plane: inside the ring by the bytes, past it because nothing happens there.
-- Assumes nothing.
use mathlib.Core.Path.{◌≡◌, ◌∙◌, sym, ap₂}
use mathlib.Core.List.{List}
use Prim.Native.Nat.{ℕ, ◌+◌, ◌*◌, ◌≤◌}
use native.Mathlib.Omega.{arith}
use lib.IntN.{ℤ, pos, suc_ℤ}
use lib.ListN.{get_or}
use Rattle.board.proofs.Lists.{get_d_listed}
use Rattle.life.specs.Plane.{on_plane, table_step}
use Rattle.life.specs.Calls.{ring_size, next_at, stepped}
use Rattle.life.specs.Theorems.{StepRightBy}
use Rattle.life.proofs.OnPlane.{off_row, off_column, on_board}
use Rattle.life.proofs.Ring.{place_of, row_of_place, column_of_place}
use Rattle.life.proofs.Far.{Where, near, far, where_is, far_row, far_column}

-- the byte of a row and a column
byte : (next : ℕ → ℕ) (w h : ℕ) (cells : List ℕ) {r c : ℕ} → r ≤ h + 1 → c ≤ w + 1
    → get_or (stepped next w h cells) (r * (w + 2) + c) 0 ≡ table_step next (on_plane w h cells) (pos r) (pos c)
unfolding stepped next_at
byte next w h cells {r} {c} p q =
    get_d_listed (next_at next w h cells) (ring_size w h) (r * (w + 2) + c) (place_of w h p q)
    ∙ ap₂ (λ (s d : ℕ). table_step next (on_plane w h cells) (pos s) (pos d)) (row_of_place w r q) (column_of_place w r q)

pub step_right : (next : ℕ → ℕ) → next 0 ≡ 0 → StepRightBy next
step_right next quiet w h cells r c = go (where_is h r) (where_is w c)
  where
    go : {r c : ℤ} → Where h r → Where w c
        → on_plane (w + 2) (h + 2) (stepped next w h cells) (suc_ℤ r) (suc_ℤ c) ≡ table_step next (on_plane w h cells) r c
    go (near i p) (near j q) = on_board (w + 2) (h + 2) (stepped next w h cells) i j (omega arith) (omega arith) ∙ byte next w h cells p q
    go {r} {c} (far f) v = off_row (w + 2) (h + 2) (stepped next w h cells) f.outside (suc_ℤ c) ∙ sym (far_row w h cells next quiet f c)
    go {r} (near i p) (far f) = off_column (w + 2) (h + 2) (stepped next w h cells) f.outside _ ∙ sym (far_column w h cells next quiet _ f)
