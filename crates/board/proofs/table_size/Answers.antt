-- `board::table_size` meets its contract: 4^w is 2 to the 2 w, and h times it fits.
-- Assumes nothing.
use mathlib.Core.Path.{◌∙◌, sym}
use borrow.Author.Tests.{le-leb, lt-leb}
use Rattle.board.specs.Checks.{table_size_within}
use Rattle.board.proofs.Powers.{table_shift, table_within}
use Rattle.board.proofs.table_size.Goals as goal

pub returns-then-w-gt-MAX_WIDTH : goal.returns-then-w-gt-MAX_WIDTH
unfolding table_size_within
returns-then-w-gt-MAX_WIDTH c = simp (lt-leb _ _ c.if-w-gt-MAX_WIDTH.true)

pub returns-then-h-gt-MAX_HEIGHT : goal.returns-then-h-gt-MAX_HEIGHT
unfolding table_size_within
returns-then-h-gt-MAX_HEIGHT c = simp (le-leb _ _ c.if-w-gt-MAX_WIDTH.false, lt-leb _ _ c.if-h-gt-MAX_HEIGHT.true)

pub returns : goal.returns
returns c =
    let w = c.if-w-gt-MAX_WIDTH.false in
    let h = c.if-h-gt-MAX_HEIGHT.false in
    table_shift w h ∙ sym (table_within w h)
