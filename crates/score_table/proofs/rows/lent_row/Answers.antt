-- `score_table::rows::lent_row` meets its contract, byte by byte.
-- Assumes nothing.
use mathlib.Core.Path.{◌≡◌, refl, sym}
use Prim.Native.Nat.{◌+◌, ◌*◌, ◌-◌, ◌≤◌}
use native.Mathlib.Omega.{arith}
use borrow.Author.Tests.{ne_eqb}
use lib.ListN.{length}
use Rattle.score_table.specs.Rows.{target_number}
use Rattle.score_table.proofs.EntryLaws.{row_room}
use Rattle.score_table.proofs.Targets.{target_number_none, target_number_lt, run_length, run_more, run_small}
use Rattle.score_table.proofs.rows.lent_row.Goals as goal

pub loop-cell-init : goal.loop-cell-init
loop-cell-init c = (refl, sym (target_number_none _ _))

pub overflow_mul-t : goal.overflow_mul-t
overflow_mul-t c =
    let g = c.args in
    let at = (g.i - 1) * g.w in
    let room : at + g.w ≤ length g.lent.now = omega (arith, row_room g.w g.i (g.i - 1) (omega arith), c.requires.2) in
    omega (arith, run_small g.lent.now at g.w c.loop-cell.cell-index c.loop-cell.t c.requires.0 (omega (arith, run_length g.lent.now at g.w room)) c.loop-cell.invariant.1)

pub overflow_add-t : goal.overflow_add-t
overflow_add-t c =
    let g = c.args in
    let at = (g.i - 1) * g.w in
    let room : at + g.w ≤ length g.lent.now = omega (arith, row_room g.w g.i (g.i - 1) (omega arith), c.requires.2) in
    omega (arith, run_small g.lent.now at g.w c.loop-cell.cell-index c.loop-cell.t c.requires.0 (omega (arith, run_length g.lent.now at g.w room)) c.loop-cell.invariant.1)

pub loop-cell-preserved : goal.loop-cell-preserved
loop-cell-preserved c =
    let g = c.args in
    let at = (g.i - 1) * g.w in
    let room : at + g.w ≤ length g.lent.now = omega (arith, row_room g.w g.i (g.i - 1) (omega arith), c.requires.2) in
    (refl, run_more g.lent.now at g.w _ _ (omega (arith, run_length g.lent.now at g.w room)) c.loop-cell.invariant.1)

pub returns : goal.returns
returns c =
    let g = c.args in
    let at = (g.i - 1) * g.w in
    let room : at + g.w ≤ length g.lent.now = omega (arith, row_room g.w g.i (g.i - 1) (omega arith), c.requires.2) in
    let e : c.loop-cell.cell-index ≡ g.w = omega (arith, run_length g.lent.now at g.w room) in
    let q : c.loop-cell.t ≡ target_number g.lent.now at g.w = rw e at c.loop-cell.invariant.1 in
    (rw (ne_eqb _ 0 c.if-i-eq0.false) q, rw q (target_number_lt _ _ _))
