-- Req 07: the eight turns of one list, and three pairs of turns in a row.
-- Assumes nothing.
use Rattle.std.specs.Prelude.{◌≡◌, Bool, true, false, List, [], ◌∷◌, ℕ, pos, negsuc}
use Rattle.turns.specs.Turn.{Quarters, none, once, twice, thrice, Turn, ◌and_then◌, turned_list, turned_bytes}

abbrev pub turn_of : Bool → Quarters → Turn
turn_of reflected quarters = record { reflected = reflected; quarters = quarters }

-- 1 2 3 over 4 5 6, turned
abbrev pub shown : Bool → Quarters → List ℕ
shown reflected quarters = turned_bytes (turn_of reflected quarters) 3 2 (1 ∷ 2 ∷ 3 ∷ 4 ∷ 5 ∷ 6 ∷ [])

pub record Examples : Type 0 where
  -- as it is; a quarter turn clockwise, 2 wide and 3 high; a half turn; a quarter turn counterclockwise
  pub none_of_them : shown false none ≡ 1 ∷ 2 ∷ 3 ∷ 4 ∷ 5 ∷ 6 ∷ []
  pub clockwise : shown false once ≡ 4 ∷ 1 ∷ 5 ∷ 2 ∷ 6 ∷ 3 ∷ []
  pub half : shown false twice ≡ 6 ∷ 5 ∷ 4 ∷ 3 ∷ 2 ∷ 1 ∷ []
  pub counterclockwise : shown false thrice ≡ 3 ∷ 6 ∷ 2 ∷ 5 ∷ 1 ∷ 4 ∷ []
  -- reflections: left-right; in the diagonal from bottom left to top right; top-bottom; in the diagonal from top left to bottom right
  pub left_right : shown true none ≡ 3 ∷ 2 ∷ 1 ∷ 6 ∷ 5 ∷ 4 ∷ []
  pub rising : shown true once ≡ 6 ∷ 3 ∷ 5 ∷ 2 ∷ 4 ∷ 1 ∷ []
  pub top_bottom : shown true twice ≡ 4 ∷ 5 ∷ 6 ∷ 1 ∷ 2 ∷ 3 ∷ []
  pub falling : shown true thrice ≡ 1 ∷ 4 ∷ 2 ∷ 5 ∷ 3 ∷ 6 ∷ []
  -- entries of any type: a row of signed numbers, left-right
  pub signed : turned_list (pos 0) (turn_of true none) 3 1 (pos 1 ∷ negsuc 1 ∷ pos 3 ∷ []) ≡ pos 3 ∷ negsuc 1 ∷ pos 1 ∷ []
  -- two quarter turns are a half turn; a quarter turn and then left-right is the reflection in the falling diagonal, the other way round the rising one
  pub two_quarters : turn_of false once and_then turn_of false once ≡ turn_of false twice
  pub quarter_first : turn_of false once and_then turn_of true none ≡ turn_of true thrice
  pub reflect_first : turn_of true none and_then turn_of false once ≡ turn_of true once
