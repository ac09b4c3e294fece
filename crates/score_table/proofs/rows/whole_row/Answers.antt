-- `score_table::rows::whole_row` meets its contract, cell by cell.
-- Assumes nothing.
use mathlib.Core.Path.{◌≡◌, refl, ◌∙◌, sym, ap}
use Prim.Native.Nat.{ℕ, ◌+◌, ◌/◌, ◌^◌, ◌≤◌, ◌<◌}
use native.Mathlib.Omega.{arith}
use lib.Pow.{pow_mono}
use Rattle.board.specs.Boards.{max_mirror_width}
use Rattle.score_table.proofs.WholeRows.{first, first_lt, first_half, first_more, first_all}
use Rattle.score_table.proofs.rows.whole_row.Goals as goal

-- the number so far is small
short : (w c i : ℕ) → w ≤ max_mirror_width → i < w / 2 → first w c (w / 2 + i) < 1048576
short w c i m l =
    let b : 2 ^ (w / 2 + i) ≤ 1048576 = pow_mono {j = 20} (omega arith) in
    omega (arith, first_lt w c (w / 2 + i))

pub loop-i-init : goal.loop-i-init
loop-i-init c =
    let w = c.args.w in
    let z : w / 2 + 0 ≡ w / 2 = omega arith in
    (refl, sym (ap (first w c.args.c) z ∙ first_half w c.args.c c.requires.2))

pub overflow_mul-r : goal.overflow_mul-r
overflow_mul-r c = omega (arith, short c.args.w c.args.c c.loop-i.i c.requires.0 (omega arith))

pub overflow_add-r : goal.overflow_add-r
overflow_add-r c = omega (arith, short c.args.w c.args.c c.loop-i.i c.requires.0 (omega arith))

pub loop-i-preserved : goal.loop-i-preserved
loop-i-preserved c =
    let l = c.loop-i in
    (l.invariant.0, sym (first_more _ _ l.i (omega arith) ∙ rw l.invariant.1))

pub returns : goal.returns
returns c =
    let l = c.loop-i in
    let e : l.i ≡ c.args.w / 2 = omega arith in
    l.invariant.1 ∙ rw e (first_all c.args.w c.args.c c.requires.1)
