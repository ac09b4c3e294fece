-- `score_table::filling::layer_size` meets its contract: a layer is the table of one row.
-- Assumes nothing.
use mathlib.Core.Path.{◌∙◌}
use native.Mathlib.Omega.{arith}
use Rattle.board.proofs.Powers.{four_pos, four_le, table_within, table_one}
use Rattle.score_table.proofs.filling.layer_size.Goals as goal

pub returns : goal.returns
returns c =
    let l = c.requires in
    let e = c.table_size.ensures ∙ table_within l (omega arith) ∙ table_one _ in
    (e, rw e (four_pos _), rw e (four_le l))
