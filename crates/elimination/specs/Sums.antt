-- Kinds of job whose worths are sums of natural numbers, as live cells are, the greatest sum wanted or the least; and what makes one lawful.
-- Assumes nothing.
use Rattle.std.specs.Prelude.{Bool, true, false, ℕ, ◌+◌, ◌*◌, ◌≤◌, ◌<◌, leb, ltb}
use Rattle.elimination.specs.Kind.{Kind}
use Rattle.elimination.specs.Endings.{Laws}

-- x is worse than y: the least sum is wanted, or the greatest
abbrev pub sum_worse : Bool → ℕ → ℕ → Bool
sum_worse true x y = ltb y x
sum_worse false x y = ltb x y

-- what a kind of job with sums fixes
pub record SumRules : Type 0 where
  -- the least sum is wanted, and not the greatest
  pub least : Bool
  -- among equals the greatest row, and not the smallest
  pub greater_first : Bool
  -- the number that stands for none, and the greatest number read that doesn't count as none
  pub absent : ℕ
  pub limit : ℕ
  -- what row c earns with k rows after it
  pub worth : ℕ → ℕ → ℕ
  -- rows are numbers below this
  pub codes : ℕ
  -- with k rows after it, may c stand below a over b? may the board end below a over b?
  pub may : ℕ → ℕ → ℕ → ℕ → Bool
  pub may_end : ℕ → ℕ → Bool

-- the kind of job; a tie is worth what both are
abbrev pub sum_kind : SumRules → Kind ℕ
sum_kind R = record {
  comparison = record { worse = sum_worse R.least; greater_first = R.greater_first; merge = λ x y. x };
  absent = R.absent;
  counts = λ x. leb x R.limit;
  start = 0;
  add = λ k c x. R.worth k c + x;
  codes = R.codes;
  may = R.may;
  may_end = R.may_end;
}

-- each row earns at most `most`, h rows at most the limit, and the limit is below the number for none
pub record SumsFit (R : SumRules) (h most : ℕ) : Type 0 where
  pub each : (k c : ℕ) → c < R.codes → R.worth k c ≤ most
  pub within : h * most ≤ R.limit
  pub absent_above : R.limit < R.absent

-- THE THEOREM of sums: a kind whose sums fit is lawful
abbrev pub SumsLawful : Type 0
SumsLawful = (R : SumRules) (h most : ℕ) → SumsFit R h most → Laws (sum_kind R) h
