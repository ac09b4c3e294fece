-- `puzzle::printing::put_line` meets its contract: the words, the digits, LF.
-- Assumes nothing.
use Prim.Native.Nat.{◌-◌}
use native.Mathlib.Omega.{arith}
use borrow.Rule.Slice.PartMut.{same_len_mid}
use lib.ListN.{length}
use Rattle.writer.specs.Letters.{LF}
use Rattle.puzzle.proofs.Pieces.{decimal_short, prints_byte, prints_more}
use Rattle.puzzle.proofs.printing.put_line.Goals as goal

pub bounds-output-end : goal.bounds-output-end
bounds-output-end c =
    let p = c.put-from in
    let q = c.put_number in
    let s = decimal_short c.args.number c.requires.0 in
    let l = same_len_mid p.result (length p.new.output - p.result) p.new.output q.new.output q.auto.output in
    omega arith

pub returns : goal.returns
returns c =
    let s = decimal_short c.args.number c.requires.0 in
    prints_byte LF (prints_more c.put-from.ensures c.put_number.ensures) (omega arith)
