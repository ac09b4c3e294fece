-- Laws of the tests that come before each public function.
-- Assumes nothing.
use mathlib.Core.Path.{◌≡◌}
use mathlib.Core.Bool.{true}
use Prim.Native.Nat.{ℕ, ◌+◌, ◌^◌, ◌<◌, ◌≤◌}
use borrow.Author.Tests.{le-leb, lt-ltb}
use Rattle.board.specs.Boards.{max_width}
use Rattle.columns.specs.Calls.{eight_from, column_masks_fit, column_fits}

module _ (w j : ℕ) where
  pub column_fits_lem : w ≤ max_width → j < w → column_fits w j ≡ true
  unfolding column_fits
  column_fits_lem l h = rw (le-leb w max_width l) (lt-ltb j w h)

module _ (w b : ℕ) where
  pub eight_fit : w ≤ max_width → b + 8 ≤ 2 ^ w → eight_from w b ≡ true
  unfolding eight_from
  eight_fit l h = rw (le-leb w max_width l) (le-leb (b + 8) (2 ^ w) h)

  module _ (j : ℕ) where
    pub masks_fit : w ≤ max_width → b + 8 ≤ 2 ^ w → j ≤ w + 1 → column_masks_fit w b j ≡ true
    unfolding column_masks_fit
    masks_fit l h i = rw (eight_fit l h) (le-leb j (w + 1) i)
