-- `score_table::best::next_row` meets its contract: the shifts form the skip's end, which fits.
-- Assumes nothing.
use mathlib.Core.Path.{◌≡◌}
use Prim.Native.Nat.{◌+◌, ◌*◌, ◌/◌, ◌%◌, ◌^◌, ◌≤◌}
use native.Mathlib.Nat.{mod-eq_of_lt}
use native.Mathlib.Omega.{arith}
use lib.Pow.{pow_mono}
use Rattle.score_table.specs.Inner.{skip_to}
use Rattle.score_table.proofs.Skipping.{skip_past, skip_within}
use Rattle.score_table.proofs.best.next_row.Goals as goal

pub returns : goal.returns
unfolding skip_to
returns c =
    let g = c.args in
    let b : 2 ^ g.bits ≤ 1024 = pow_mono c.requires.0 in
    let h : skip_to g.bits g.x g.j ≤ 2 ^ g.bits = skip_within g.bits g.x g.j c.requires.1 in
    let e : (g.x / 2 ^ c.saturating_sub-s.result + 1) * 2 ^ c.saturating_sub-s.result % 2 ^ 64 ≡ skip_to g.bits g.x g.j =
    rw c.saturating_sub-s.ensures (mod-eq_of_lt (omega arith)) in
    (e, rw e (skip_past g.bits g.x g.j), rw e h)
