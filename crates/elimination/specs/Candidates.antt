-- Document 01, "A job and its units": of the candidates take the best, and among equals the first. The choice by trying 0, 1, .. in turn, and
-- what it means that it is right. Which worth is worse, the order of ties and a tie's worth are left open.
-- Assumes nothing.
use Rattle.std.specs.Prelude.{◌≡◌, Bool, true, false, List, ℕ, zero, suc, ◌<◌, Option, None, Some}
use Rattle.elimination.specs.Order.{row_before, rows_before, StrictWeakOrder, Tied, NoBetter}

-- a candidate with its worth, or none
pub data Choice (X : Type 0) : Type 0 where
  nothing : Choice X
  chosen : ℕ → X → Choice X

-- how candidates are compared
pub record Comparison (X : Type 0) : Type 0 where
  -- the first worth is worse than the second
  pub worse : X → X → Bool
  -- among equals the greatest row, and not the smallest
  pub greater_first : Bool
  -- what a tie is worth, of the worth held and the one that comes later
  pub merge : X → X → X

-- the candidates m and c are tied, m the greater: which of them is held, with the tie's worth z
abbrev pub settle_tie : {X : Type 0} → Bool → ℕ → ℕ → X → Choice X
settle_tie true m c z = chosen m z
settle_tie false m c z = chosen c z

module _ {X : Type 0} (K : Comparison X) where
  -- the candidate m, worth x, against the one held, c, worth y: first whether y is worse, then whether x is
  abbrev pub against : Bool → Bool → ℕ → X → ℕ → X → Choice X
  against true xWorse m x c y = chosen m x
  against false true m x c y = chosen c y
  against false false m x c y = settle_tie K.greater_first m c (K.merge y x)

  -- the candidate m, by what it offers, after the choice so far
  abbrev pub consider : ℕ → Option X → Choice X → Choice X
  consider m None held = held
  consider m (Some x) nothing = chosen m x
  consider m (Some x) (chosen c y) = against (K.worse y x) (K.worse x y) m x c y

  -- the choice among the candidates below m, where `offer c` is what c is worth, if it may be taken
  unfoldable pub scan : (ℕ → Option X) → ℕ → Choice X
  scan offer zero = nothing
  scan offer (suc m) = consider m (offer m) (scan offer m)

  -- a tie's worth is tied with both
  abbrev pub MergeTied : Type 0
  MergeTied = (x y : X) → Tied K.worse x y → Tied K.worse x (K.merge x y)

  -- row c, worth x, is no better than row d, worth y
  abbrev pub NoBetterRow : X → ℕ → X → ℕ → Type 0
  NoBetterRow x c y d = NoBetter K.worse (row_before K.greater_first) x c y d

  -- the rows cs, worth x, are no better than the rows ds, worth y
  abbrev pub NoBetterRows : X → List ℕ → X → List ℕ → Type 0
  NoBetterRows x cs y ds = NoBetter K.worse (rows_before K.greater_first) x cs y ds

  -- no candidate below m is better than row r, worth y
  abbrev pub Unbeaten : (ℕ → Option X) → ℕ → ℕ → X → Type 0
  Unbeaten offer m r y = (c : ℕ) (x : X) → c < m → offer c ≡ Some x → NoBetterRow x c y r

  -- r is the best of the candidates below m, and y is what it and those tied with it are worth
  pub record BestCandidate (offer : ℕ → Option X) (m r : ℕ) (y : X) : Type 0 where
    pub inside : r < m
    pub worth : X
    pub offered : offer r ≡ Some worth
    pub tied : Tied K.worse worth y
    pub unbeaten : Unbeaten offer m r y

  -- a choice among the candidates below m is right: none where none offers anything, and otherwise the best
  pub data Found (offer : ℕ → Option X) (m : ℕ) : Choice X → Type 0 where
    none_found : ((c : ℕ) (x : X) → c < m → offer c ≡ Some x → ⊥) → Found offer m nothing
    best_found : (r : ℕ) (y : X) → BestCandidate offer m r y → Found offer m (chosen r y)

  -- THE THEOREM of a scan: its choice is right
  abbrev pub ScanFindsBest : Type 0
  ScanFindsBest = StrictWeakOrder K.worse → MergeTied → (offer : ℕ → Option X) (m : ℕ) → Found offer m (scan offer m)
