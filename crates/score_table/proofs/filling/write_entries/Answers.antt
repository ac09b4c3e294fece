-- `score_table::filling::write_entries` meets its contract, entry by entry.
-- Assumes nothing.
use mathlib.Core.Path.{◌≡◌, sym, ◌∙◌, ap}
use native.Mathlib.Omega.{arith}
use lib.ListN.{length}
use Rattle.elimination.proofs.Table.{fill_none, fill_next, fill_length}
use Rattle.score_table.proofs.filling.write_entries.Goals as goal

pub loop-i-init : goal.loop-i-init
loop-i-init c = sym (fill_none _ _ _ _ _ _)

pub write_entry-requires : goal.write_entry-requires
write_entry-requires c =
    let R = c.requires.0 in
    let long : length c.loop-i.table ≡ length c.args.table.now = ap length c.loop-i.invariant ∙ fill_length _ _ _ _ _ _ _ in (
      record { memory = R.memory; after = R.after; inside = omega (arith, R.inside, c.loop-i-test.true); layer = λ z. omega (arith, R.layer z, long) },
      c.requires.1,
      omega (arith, c.requires.2, long),
    )

pub loop-i-preserved : goal.loop-i-preserved
loop-i-preserved c = fill_next _ _ _ _ _ _ _ c.loop-i.invariant c.write_entry.ensures

pub returns : goal.returns
returns c = let e : c.loop-i.i ≡ c.args.entries.count = omega arith in rw e at c.loop-i.invariant
