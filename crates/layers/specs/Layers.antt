-- When a layer is filled at once, and what the inner functions are lent.
-- Assumes nothing.
use Rattle.std.specs.Prelude.{◌≡◌, Bool, false, cond, not, ◌&&◌, List, ℕ, ◌+◌, ◌-◌, ◌^◌, ◌≤◌, ◌<◌, eqb, leb, ltb, length, get_or}
use Rattle.elimination.specs.Table.{Apart}
use Rattle.score_table.specs.ScoreTable.{absent}
use Rattle.score_table.specs.Inner.{Memory}
use Rattle.score_table.specs.declared.Want.{Want}

-- the narrowest grid whose layers are quicker at once than entry by entry
abbrev pub narrowest : ℕ
narrowest = 4

-- two layers of q entries lie apart
abbrev pub are_apart : ℕ → ℕ → ℕ → Bool
are_apart source target q = cond (ltb source target) (leb q (target - source)) (leb q (source - target))

-- so many entries are a whole layer that is filled at once: one above the last, wide enough, apart from the layer that it reads, the greatest sums
-- are wanted, a row's cells are its number's digits, and rows stay as they are
unfoldable pub at_once : Want → ℕ → ℕ → ℕ → ℕ → ℕ → Bool
at_once want w k source target count =
    not want.least && not want.halves && not want.predecessor && leb narrowest w && not (eqb k 0) && eqb count (4 ^ w) && are_apart source target (4 ^ w)

-- what that says
pub record Suits (want : Want) (w k source target count : ℕ) : Type 0 where
  pub greatest : want.least ≡ false
  pub digits : want.halves ≡ false
  pub stays : want.predecessor ≡ false
  pub wide : narrowest ≤ w
  pub above : 0 < k
  pub whole : count ≡ 4 ^ w
  pub apart : Apart (4 ^ w) source target

-- what the filling of such a layer is lent
pub record LayerLent (want : Want) (w h k source target : ℕ) (givens table : List ℕ) : Type 0 where
  pub suits : Suits want w k source target (4 ^ w)
  pub memory : Memory false w h givens
  pub after : k < h
  pub small : want.limit + w < absent
  pub reads : source + 4 ^ w ≤ length table
  pub writes : target + 4 ^ w ≤ length table

-- what rows earn and 1, so that a number fits 16 bits
pub record Gained (w limit : ℕ) (worth : List ℕ) : Type 0 where
  pub small : limit + w < absent
  pub most : (c : ℕ) → c < 2 ^ w → get_or worth c 0 ≤ w + 1
