-- `plaintext::scan::fill` meets its contract: each line is the first of those left.
-- Assumes nothing.
use mathlib.Core.Path.{◌≡◌}
use Prim.Native.Nat.{◌+◌, ◌≤◌}
use native.Mathlib.Omega.{arith}
use borrow.Author.Rules.{rules}
use lib.ListN.{length, length-drop}
use Rattle.std.specs.Prelude.{None}
use Rattle.writer.proofs.Over.{rest_whole}
use Rattle.plaintext.specs.Reading.{rows_of}
use Rattle.plaintext.proofs.Scans.{copied_none, copied_end, copied_skip, row_narrow, row_room, copied_row}
use Rattle.plaintext.proofs.scan.fill.Goals as goal

pub loop-line-init : goal.loop-line-init
loop-line-init c = (tt, tt, rw (c.into_iter-line-iterator.ensures.into_iter_gives, c.new-line-items.ensures) (copied_none _ _ _ c.requires.0))

pub loop-line-preserved-in_default : goal.loop-line-preserved-in_default
unfolding rows_of
loop-line-preserved-in_default c =
    let none : c.in_default.field-0 ≡ None = search rules in
    let told = rw (c.in_default.is, none) at c.row.ensures in
    (tt, tt, copied_skip _ _ _ c.requires.0 _ _ _ (rw told) (rw c.in-Some.ensures.steps.judges at c.loop-line.invariant.2))

pub loop-line-preserved-in_default-2 : goal.loop-line-preserved-in_default-2
unfolding rows_of
loop-line-preserved-in_default-2 c =
    let told = rw c.in_default.is at c.row.ensures in
    (tt, tt, copied_skip _ _ _ c.requires.0 _ _ _ (rw told.2) (rw c.in-Some.ensures.steps.judges at c.loop-line.invariant.2))

pub fill_row-requires : goal.fill_row-requires
fill_row-requires c =
    let l = c.loop-line in
    let told = rw c.in-Ok-Some.field-0-is at c.in-Ok-Some.ensures in
    let here = rw (c.in-Some.ensures.steps.judges, told) at l.invariant.2 in
    let room : l.k + c.args.w ≤ length l.cells = omega (arith, row_room _ _ _ c.requires.0 _ _ _ _ here, c.requires.1) in (
      row_narrow _ _ _ c.requires.0 _ _ _ _ here,
      rw (rest_whole l.k l.cells, length-drop l.k l.cells) (omega arith),
    )

pub loop-line-preserved : goal.loop-line-preserved
loop-line-preserved c =
    let told = rw c.in-Ok-Some.field-0-is at c.in-Ok-Some.ensures in
    let here = rw (c.in-Some.ensures.steps.judges, told) at c.loop-line.invariant.2 in
    (tt, tt, copied_row _ _ _ c.requires.0 _ _ _ _ here _ c.fill_row.ensures)

pub returns : goal.returns
returns c = copied_end _ _ _ c.requires.0 _ _ (rw c.in-None.ensures.steps.judges.0 at c.loop-line.invariant.2)
