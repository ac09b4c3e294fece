-- What a run of stores leaves in a list.
-- Assumes nothing.
use Rattle.std.specs.Prelude.{◌≡◌, List, ℕ, ◌+◌, ◌*◌, ◌≤◌, ◌<◌, length, get_or}

-- of n places from o on those that there are hold f 0, f 1, ..; no other place has changed. (A lent array doesn't tell its length.)
pub record Wrote (o n : ℕ) (f : ℕ → ℕ) (old new : List ℕ) : Type 0 where
  pub long : length new ≡ length old
  pub inside : (y : ℕ) → y < n → o + y < length old → get_or new (o + y) 0 ≡ f y
  pub before : (p : ℕ) → p < o → get_or new p 0 ≡ get_or old p 0
  pub after : (p : ℕ) → o + n ≤ p → get_or new p 0 ≡ get_or old p 0

-- of the n by n places from `out` on, the eight columns from b on hold f in their first m rows; no other column has changed, nor a place outside; what
-- the eight hold in later rows isn't said, and for m = n there are none
pub record Spread (n out b m : ℕ) (f : ℕ → ℕ → ℕ) (old new : List ℕ) : Type 0 where
  pub long : length new ≡ length old
  pub inside : (a l : ℕ) → a < m → l < 8 → get_or new (out + a * n + (b + l)) 0 ≡ f a l
  pub left : (a c : ℕ) → a < n → c < b → get_or new (out + a * n + c) 0 ≡ get_or old (out + a * n + c) 0
  pub right : (a c : ℕ) → a < n → c < n → b + 8 ≤ c → get_or new (out + a * n + c) 0 ≡ get_or old (out + a * n + c) 0
  pub before : (p : ℕ) → p < out → get_or new p 0 ≡ get_or old p 0
  pub after : (p : ℕ) → out + n * n ≤ p → get_or new p 0 ≡ get_or old p 0
