-- When each public function has something to do, and what it leaves.
-- Assumes nothing.
use Rattle.std.specs.Prelude.{◌≡◌, Bool, true, false, ◌&&◌, List, ℕ, ◌+◌, ◌^◌, ◌<◌, ◌≤◌, leb, ltb, get_or}
use Rattle.board.specs.Boards.{max_width}
use Rattle.column_elimination.specs.Written.{Wrote}

-- there are eight rows of width w from b on
unfoldable pub eight_from : ℕ → ℕ → Bool
eight_from w b = leb w max_width && leb (b + 8) (2 ^ w)

-- and a column j, with the ring's two
unfoldable pub column_masks_fit : ℕ → ℕ → ℕ → Bool
column_masks_fit w b j = eight_from w b && leb j (w + 1)

-- j is one of the first w columns, 0 to w - 1
unfoldable pub column_fits : ℕ → ℕ → Bool
column_fits w j = leb w max_width && ltb j w

-- the places of eight rows' patterns, 8 times a window each, among those with the same cells above and below
abbrev pub WindowPlaces : List ℕ → Type 0
WindowPlaces at = (l : ℕ) → l < 8 → get_or at l 0 ≤ 56

-- a call that fits writes the first n places; any other leaves all as it was
pub record Leaves (call_fits : Bool) (n : ℕ) (f : ℕ → ℕ) (old new : List ℕ) : Type 0 where
  pub done : call_fits ≡ true → Wrote 0 n f old new
  pub refused : call_fits ≡ false → new ≡ old
