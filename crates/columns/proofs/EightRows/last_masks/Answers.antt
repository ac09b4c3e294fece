-- `columns::EightRows::last_masks` meets its contract: a turn writes eight lanes.
-- Assumes nothing.
use Prim.Native.Nat.{ℕ, ◌+◌, ◌*◌, ◌/◌, ◌%◌}
use borrow.Author.Rules.{rules}
use lib.Bits.{bit_and}
use lib.ListN.{get_or}
use Rattle.std.proofs.Common.{tests}
use Rattle.column_elimination.proofs.Turns.{last_turn}
use Rattle.columns.proofs.EightRows.last_masks.Goals as goal

pub loop-t-preserved : goal.loop-t-preserved
loop-t-preserved c =
    let t = c.loop-t.t in
    let keep = c.args.keep.now in
    let at = c.windows-at.result in
    let past = c.windows-past.result in
    last_turn keep _ _ _ at past c.windows-at.ensures.places c.windows-past.ensures.places c.loop-t.invariant
    (c.eight.ensures
    (λ (l : ℕ).
    bit_and (get_or keep (128 * (t / 4) + 2 * (t % 4) + get_or at l 0) 0) (get_or keep (256 * (t / 4 % 2) + 4 * (t % 2) + get_or past l 0) 0))
    (λ l v h k. search (rules, tests)))
