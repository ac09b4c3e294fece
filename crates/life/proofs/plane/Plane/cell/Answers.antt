-- `life::plane::Plane::cell` meets its contract: off the board every cell is dead, on it the cell is the board's.
-- Assumes nothing.
use mathlib.Core.Path.{sym}
use Prim.Native.Nat.{◌*◌, ◌+◌, ◌-◌}
use native.Mathlib.Omega.{arith}
use Rattle.life.proofs.OnPlane.{off_row, off_column, off_low, off_high, on_board_at, state_small}
use Rattle.life.proofs.plane.Plane.cell.Goals as goal
use Rattle.life.proofs.plane.Plane.cell.Goals.{then-i-lt2-via-then-i-lt2, then-i-lt2-via-else-i-lt2+then-self-i, then-i-lt2-via-else-i-lt2+else-self-i+then-j-lt2, then-i-lt2-via-else-i-lt2+else-self-i+else-j-lt2+then-self-j}

pub returns-then-i-lt2 : goal.returns-then-i-lt2
returns-then-i-lt2 c = (
  sym
      (elim c.then-i-lt2.branch [
        | then-i-lt2-via-then-i-lt2 w ↦ off_row _ _ _ (off_low _ _ w.if-i-lt2.true) _
        | then-i-lt2-via-else-i-lt2+then-self-i w ↦ off_row _ _ _ (off_high _ _ w.if-self-i.true) _
        | then-i-lt2-via-else-i-lt2+else-self-i+then-j-lt2 w ↦ off_column _ _ _ (off_low _ _ w.if-j-lt2.true) _
        | then-i-lt2-via-else-i-lt2+else-self-i+else-j-lt2+then-self-j w ↦ off_column _ _ _ (off_high _ _ w.if-self-j.true) _
      ]),
  omega arith,
)

pub returns : goal.returns
returns c =
    let a = c.args in
    let p = a.self.now in (
      sym (on_board_at p.width p.height p.cells.now a.i a.j (omega arith) (omega arith) (omega arith) (omega arith)),
      state_small p.board.bytes ((a.i - 2) * p.width + (a.j - 2)),
    )
