-- `layers::by_columns` meets its contract, test by test.
-- Assumes nothing.
use mathlib.Core.Path.{◌≡◌, ◌∙◌, sym}
use Prim.Native.Nat.{◌^◌}
use native.Mathlib.Omega.{arith}
use borrow.Author.Tests.{ne_eqb}
use Rattle.board.proofs.Powers.{table_within, table_one}
use Rattle.layers.proofs.Layers.{once_part, once_apart, apart_diff}
use Rattle.layers.proofs.by_columns.Goals as goal

pub returns-then-entries-q : goal.returns-then-entries-q
returns-then-entries-q c =
    let size : c.table_size-q.result ≡ 4 ^ c.args.w = c.table_size-q.ensures ∙ table_within (c.requires c.if-want-2.false) (omega arith) ∙ table_one _ in
    rw (size, c.abs_diff.ensures) (apart_diff _ _ _)
    ∙ once_apart c.args.want _ _ _ _ _ c.if-want.false c.if-want-2.false c.if-want-3.false c.if-w-lt-NARROWEST.false c.if-entries-eq0.false (c.if-entries-q.true ∙ size)

pub returns-else-entries-q : goal.returns-else-entries-q
returns-else-entries-q c =
    let size : c.table_size-q.result ≡ 4 ^ c.args.w = c.table_size-q.ensures ∙ table_within (c.requires c.if-want-2.false) (omega arith) ∙ table_one _ in
    ne_eqb _ _ c.if-entries-q.false
    ∙ once_part c.args.want _ _ _ _ _ c.if-want.false c.if-want-2.false c.if-want-3.false c.if-w-lt-NARROWEST.false c.if-entries-eq0.false (λ e. c.if-entries-q.false (e ∙ sym size))
