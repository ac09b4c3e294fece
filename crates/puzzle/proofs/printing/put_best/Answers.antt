-- `puzzle::printing::put_best` meets its contract: the board is never refused, since there is room for its text.
-- Assumes nothing.
use mathlib.Core.Path.{◌≡◌}
use mathlib.Core.List.{[], ◌∷◌}
use Prim.Native.Nat.{◌-◌, ◌≤◌}
use native.Mathlib.Omega.{arith}
use lib.ListN.{length, take, drop}
use Rattle.writer.specs.Letters.{bang}
use Rattle.writer.specs.Writing.{text_length}
use Rattle.puzzle.proofs.Pieces.{line_short, prints_more, rest_long}
use Rattle.puzzle.proofs.Showing.{text_short, written, prints_board}
use Rattle.puzzle.proofs.printing.put_best.Goals as goal

-- the score's line leaves room for the board's text
room : (c : goal.After-unwrap_or)
    → let l = c.put_line-from.new.output in let k = c.put_line-from.result in 660 ≤ length (take (length l - k) (drop k l))
room c =
    let s = line_short (bang ∷ []) c.args.score c.requires.1 in
    let n = c.put_line-from.ensures.count in
    let m = c.put_line-from.auto.output in
    rw (rest_long c.put_line-from.result c.put_line-from.new.output) (omega arith)

-- and all of it is written
letters : (c : goal.After-unwrap_or) → c.unwrap_or.result ≡ text_length c.args.w c.args.h
letters c = rw (written c.requires.0 (room c) c.write.ensures) at c.unwrap_or.ensures

pub overflow_add-result : goal.overflow_add-result
overflow_add-result c =
    let s = line_short (bang ∷ []) c.args.score c.requires.1 in
    let n = c.put_line-from.ensures.count in
    let t = text_short c.args.w c.args.h c.requires.0.size in
    let l = letters c in
    omega arith

pub returns : goal.returns
returns c = rw (letters c) (prints_more c.put_line-from.ensures (prints_board c.requires.0 (room c) c.write.ensures))
