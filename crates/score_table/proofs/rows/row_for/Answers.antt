-- `score_table::rows::row_for` meets its contract, either way.
-- Assumes nothing.
use mathlib.Core.Path.{◌≡◌}
use Rattle.score_table.specs.Rows.{row_for}
use Rattle.score_table.proofs.WholeRows.{row_lt}
use Rattle.score_table.proofs.rows.row_for.Goals as goal

pub returns-then-want : goal.returns-then-want
returns-then-want c =
    let e : c.whole_row.result ≡ row_for c.args.want c.args.w c.args.c = rw c.if-want.true c.whole_row.ensures in
    (e, rw e (row_lt c.args.want.halves c.args.w c.args.c c.requires.1))
