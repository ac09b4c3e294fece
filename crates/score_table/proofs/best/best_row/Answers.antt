-- `score_table::best::best_row` meets its contract, row by row.
-- Assumes nothing.
use mathlib.Core.Path.{◌≡◌, refl, ◌∙◌, sym}
use Prim.Native.Nat.{◌+◌, ◌^◌, ◌<◌, ◌≤◌}
use native.Mathlib.Omega.{arith}
use borrow.Author.Rules.{rules}
use Rattle.board.proofs.Search.{none_yet, none_more}
use Rattle.board.proofs.Widths.{width_le}
use Rattle.score_table.specs.Rows.{digits_of}
use Rattle.score_table.proofs.Scanning.{held_none, held_skip, held_next_at, found}
use Rattle.score_table.proofs.best.best_row.Goals as goal

pub rows-init : goal.rows-init
rows-init c = (search rules, held_none _ _ _ _ _ _ _ _ _)

pub loop-j-init : goal.loop-j-init
loop-j-init c = (refl, omega arith, none_yet _)

pub next_row-c-requires : goal.next_row-c-requires
next_row-c-requires c = let w = c.requires.0 in let n = c.row_codes-n.ensures.0 in let e = c.loop-j.invariant.0 in
    (rw c.row_digits-bits.ensures w.narrow, omega (arith, n, e, c.if-n-c.false), omega (arith, width_le _ _ w, c.loop-j.invariant.1, c.loop-j-test.true))

pub loop-j-preserved : goal.loop-j-preserved
loop-j-preserved c = (c.loop-j.invariant.0, omega (arith, c.loop-j.invariant.1, c.loop-j-test.true), none_more _ _ c.loop-j.invariant.2 (sym c.passes.ensures ∙ c.if-not-passes.false))

pub rows-preserved-then-not-passes : goal.rows-preserved-then-not-passes
rows-preserved-then-not-passes c =
    let p = c.requires in
    let g = c.args.grid in
    let codes : c.row_codes-n.result ≡ 2 ^ digits_of g.want g.width = rw c.row_digits-bits.ensures at c.row_codes-n.ensures.0 in
    let columns = rw (c.row_for.ensures.0, c.row_for-2.ensures.0) at c.columns-columns.ensures in
    let skip = rw (c.row_digits-bits.ensures, c.loop-j.invariant.0) at c.next_row-c.ensures.0 in
    let within : c.next_row-c.result ≤ 2 ^ digits_of g.want g.width = rw c.row_digits-bits.ensures at c.next_row-c.ensures.2 in
    let inside : c.loop-j.j < g.width + 2 = omega (arith, c.loop-j.invariant.1, c.loop-j-test.true) in
    let fails = rw c.row_for-row.ensures.0 at (sym c.passes.ensures ∙ c.if-not-passes.true) in
    (omega arith, held_skip _ _ _ _ _ _ _ _ _ p.0 p.1 p.2 p.3 _ columns (omega arith) c.rows.invariant.1 _ _ inside fails skip within)

pub rows-preserved : goal.rows-preserved
rows-preserved c =
    let p = c.requires in
    let g = c.args.grid in
    let codes : c.row_codes-n.result ≡ 2 ^ digits_of g.want g.width = rw c.row_digits-bits.ensures at c.row_codes-n.ensures.0 in
    let columns = rw (c.row_for.ensures.0, c.row_for-2.ensures.0) at c.columns-columns.ensures in
    let all : c.loop-j.j ≡ g.width + 2 = c.loop-j-test.false in
    let none = sym (rw (all, c.row_for-row.ensures.0) at c.loop-j.invariant.2) in
    let next = rw (c.offer-offered.ensures, c.row_for-row.ensures.0, c.loop-j.invariant.0) at c.consider-held.ensures in
    rw c.loop-j.invariant.0 (omega arith, held_next_at _ _ _ _ _ _ _ _ _ p.0 p.1 p.2 p.3 _ columns (omega arith) c.rows.invariant.1 _ _ none refl next)

pub returns : goal.returns
returns c =
    let g = c.args.grid in
    let codes : c.row_codes-n.result ≡ 2 ^ digits_of g.want g.width = rw c.row_digits-bits.ensures at c.row_codes-n.ensures.0 in
    found _ _ _ _ _ _ _ _ _ c.rows.invariant.1 (omega arith)
