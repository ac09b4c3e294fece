-- `layers::layer::fill` meets its contract: what is written is the whole layer.
-- Assumes nothing.
use native.Mathlib.Omega.{arith}
use Rattle.board.proofs.Powers.{two_shift, four_two}
use Rattle.layers.proofs.Layers.{gains_are, gained, keeps_are, apart_rows, layer_done}
use Rattle.layers.proofs.layer.fill.Goals as goal

pub invariant_of-rows : goal.invariant_of-rows
invariant_of-rows c =
    let narrow = c.requires.memory.width.narrow in
    record { number = (narrow, two_shift narrow); gained = gained _ _ narrow c.requires.small c.gains.ensures }

pub fill_rows-requires : goal.fill_rows-requires
fill_rows-requires c =
    let R = c.requires in
    let q = four_two c.args.grid.width in
    (omega (arith, R.suits.wide), apart_rows _ _ _ R.suits.apart, omega (arith, R.reads, q), omega (arith, R.writes, q))

pub returns : goal.returns
returns c =
    layer_done _ _ _ _ _ _ _ _ _ _ c.requires (apart_rows _ _ _ c.requires.suits.apart) (gains_are _ _ c.requires.memory.width.narrow c.gains.ensures)
    (c.fill_rows.ensures _ (keeps_are _ c.keeps.ensures))
