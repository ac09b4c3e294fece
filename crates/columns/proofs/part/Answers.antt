-- `columns::part` meets its contract: a turn writes eight lanes.
-- Assumes nothing.
use Prim.Native.Nat.{◌+◌, ◌*◌}
use borrow.Author.Rules.{rules}
use Rattle.std.proofs.Common.{tests}
use Rattle.column_elimination.specs.Columns.{mix}
use Rattle.column_elimination.proofs.Turns.{part_turn}
use Rattle.columns.proofs.part.Goals as goal

pub loop-x-preserved : goal.loop-x-preserved
unfolding mix
loop-x-preserved c =
    let g = c.args in
    let x = c.loop-x.x in
    part_turn g.src.now g.masks.now g.i g.k g.m g.o x c.loop-x.invariant
    (c.eight.ensures (λ y. mix g.src.now g.masks.now (g.i + 8 * x + y) (g.k + 8 * x + y) g.m y) (λ l v h q. search (rules, tests)))
