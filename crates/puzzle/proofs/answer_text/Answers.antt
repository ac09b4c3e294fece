-- `puzzle::answer_text` meets its contract: a text too long, a text not read, a text solved.
-- Assumes nothing.
use mathlib.Core.Path.{sym}
use native.Mathlib.Omega.{arith}
use lib.Seq.{length-take-le}
use Prim.Native.Nat.{◌*◌}
use Rattle.puzzle.proofs.Reading.{Sizes, sizes, long_text, refused_text, read_board, read_small, read_solved}
use Rattle.puzzle.proofs.answer_text.Goals as goal

pub returns-then-text-gt-LONGEST : goal.returns-then-text-gt-LONGEST
returns-then-text-gt-LONGEST c = long_text c.if-text-gt-LONGEST.true c.put_refusal.ensures c.put_refusal.auto.output

pub overflow_mul-n : goal.overflow_mul-n
overflow_mul-n c =
    let s = sizes _ _ _ _ c.requires in
    let l = read_small c.if-text-gt-LONGEST.false s.givens_room c.read_text.ensures c.in-Ok.is in
    omega (arith, l)

pub slice_bounds-solve_cells-end : goal.slice_bounds-solve_cells-end
slice_bounds-solve_cells-end c =
    let s = sizes _ _ _ _ c.requires in
    omega (arith, read_small c.if-text-gt-LONGEST.false s.givens_room c.read_text.ensures c.in-Ok.is, s.givens_room, c.read_text.auto.cells)

pub slice_bounds-solve_cells-end-in-Ok : goal.slice_bounds-solve_cells-end-in-Ok
slice_bounds-solve_cells-end-in-Ok c =
    let s = sizes _ _ _ _ c.requires in
    sym (length-take-le _ _ (omega (arith, read_small c.if-text-gt-LONGEST.false s.givens_room c.read_text.ensures c.in-Ok.is, s.givens_room, c.read_text.auto.cells)))

pub slice_bounds-solve_cells-end-in-Ok-2 : goal.slice_bounds-solve_cells-end-in-Ok-2
slice_bounds-solve_cells-end-in-Ok-2 c =
    let s = sizes _ _ _ _ c.requires in
    omega (arith, read_small c.if-text-gt-LONGEST.false s.givens_room c.read_text.ensures c.in-Ok.is, s.board_room)

pub slice_bounds-solve_cells-end-in-Ok-3 : goal.slice_bounds-solve_cells-end-in-Ok-3
slice_bounds-solve_cells-end-in-Ok-3 c =
    let s = sizes _ _ _ _ c.requires in
    sym (length-take-le _ _ (omega (arith, read_small c.if-text-gt-LONGEST.false s.givens_room c.read_text.ensures c.in-Ok.is, s.board_room)))

pub solve_cells-requires : goal.solve_cells-requires
solve_cells-requires c =
    let s = sizes _ _ _ _ c.requires in
    (read_board c.if-text-gt-LONGEST.false s.givens_room c.read_text.ensures c.in-Ok.is, s.output_room_lem)

pub returns-in-Err : goal.returns-in-Err
returns-in-Err c =
    let s = sizes _ _ _ _ c.requires in
    refused_text c.if-text-gt-LONGEST.false s.givens_room c.read_text.ensures _ c.in-Err.is c.put_refusal-in-Err.ensures c.put_refusal-in-Err.auto.output

pub returns-in-Ok : goal.returns-in-Ok
returns-in-Ok c =
    let s = sizes _ _ _ _ c.requires in
    let l = read_small c.if-text-gt-LONGEST.false s.givens_room c.read_text.ensures c.in-Ok.is in
    let S = c.solve_cells in
    let size = c.in-Ok.size in
    let long = length-take-le (size.width * size.height) c.args.board.now (omega (arith, l, s.board_room)) in
    read_solved c.if-text-gt-LONGEST.false s.givens_room c.read_text.ensures c.in-Ok.is (omega (arith, long, S.auto.board)) S.auto.output S.ensures.0 S.ensures.1
