-- `layers::layer::finish` meets its contract: the entries are written from the vector that holds the numbers after w columns.
-- Assumes nothing.
use Prim.Native.Nat.{ℕ}
use lib.ListN.{length-replicate}
use Rattle.layers.proofs.Layers.{rows_room, finish_even, finish_odd}
use Rattle.layers.proofs.layer.finish.Goals as goal
use Rattle.layers.proofs.layer.finish.Goals.{then-rows-eq0, else-rows-eq0}

pub write_all-requires : goal.write_all-requires
write_all-requires c = let n = c.args.rows.number in rows_room _ _ _ n.0 n.1 c.requires.0 c.requires.1

pub returns : goal.returns
returns c =
    let n = c.args.rows.number in
    let long = length-replicate {A = ℕ} 128 0 in
    elim c.if-rows-eq0.branch [
      | then-rows-eq0 w ↦ finish_even _ _ _ n.0 c.requires.0 long c.last_masks.ensures _ _ _ _ n.1 w.if-rows-eq0.true (rw w.numbers-is at c.write_all.ensures)
      | else-rows-eq0 w ↦ finish_odd _ _ _ n.0 c.requires.0 long c.last_masks.ensures _ _ _ _ n.1 w.if-rows-eq0.false (rw w.numbers-is at c.write_all.ensures)
    ]
