-- Document 01, "The score table" and choosing, for any kind of job: the rules of an entry and of a choice over whatever numbers are read, the
-- right entries, and the rows that they choose. A layer goes by k, the number of rows after it: layer i of h is k = h - i.
-- Assumes nothing.
use Rattle.std.specs.Prelude.{Bool, true, false, Option, None, Some}
use Rattle.std.proofs.Math.Bool.{cond}
use mathlib.Core.List.{List, [], ◌∷◌}
use Prim.Native.Nat.{ℕ, zero, suc}
use Rattle.elimination.specs.Candidates.{Choice, nothing, chosen, Comparison, scan}

-- what a kind of job fixes; X holds the worths, as the table holds them
pub record Kind (X : Type 0) : Type 0 where
  -- which worth is worse, the order of ties, and what a tie is worth
  pub comparison : Comparison X
  -- the number that stands for none
  pub absent : X
  -- a number read from the table that doesn't count as none
  pub counts : X → Bool
  -- what an ending of no rows is worth
  pub start : X
  -- with k rows after row c that are worth x: what c and they are worth
  pub add : ℕ → ℕ → X → X
  -- rows are numbers below this
  pub codes : ℕ
  -- with k rows after it, may c stand below a over b?
  pub may : ℕ → ℕ → ℕ → ℕ → Bool
  -- may the board end below a over b?
  pub may_end : ℕ → ℕ → Bool

module _ {X : Type 0} where
  -- the worth x, of a candidate whose number read counts or not
  abbrev pub offer_counted : Bool → X → Option X
  offer_counted true x = Some x
  offer_counted false x = None

  -- the worth of a choice, or the number for none
  abbrev pub worth_of : X → Choice X → X
  worth_of absent nothing = absent
  worth_of absent (chosen c x) = x

  -- the row chosen, and then the rows that follow it
  abbrev pub rows_of : Choice X → (ℕ → List ℕ) → List ℕ
  rows_of nothing rest = []
  rows_of (chosen c x) rest = c ∷ rest c

module _ {X : Type 0} (G : Kind X) where
  -- what c offers, which may stand there or not, where `read c` is the number read for it
  abbrev pub offer_if : Bool → ℕ → (ℕ → X) → ℕ → Option X
  offer_if false k read c = None
  offer_if true k read c = offer_counted (G.counts (read c)) (G.add k c (read c))

  -- what the candidate c below a over b offers, with k rows after it
  abbrev pub offer : ℕ → ℕ → ℕ → (ℕ → X) → ℕ → Option X
  offer k a b read c = offer_if (G.may k a b c) k read c

  -- the rule of a choice, over the numbers read, right or not
  unfoldable pub choose : ℕ → ℕ → ℕ → (ℕ → X) → Choice X
  unfolding scan
  choose k a b read = scan G.comparison (offer k a b read) G.codes

  -- the rule of an entry, over the numbers read, right or not: k rows come after row b, which stands below a
  unfoldable pub entry : ℕ → ℕ → ℕ → (ℕ → X) → X
  unfolding choose
  entry zero a b read = cond (G.may_end a b) G.start G.absent
  entry (suc k) a b read = worth_of G.absent (choose k a b read)

  -- the right entry: the rule over right entries
  unfoldable pub right_entry : ℕ → ℕ → ℕ → X
  unfolding entry
  right_entry zero a b = entry zero a b (λ c. G.absent)
  right_entry (suc k) a b = entry (suc k) a b (right_entry k b)

  -- the k rows below a over b that right entries choose
  unfoldable pub right_rows : ℕ → ℕ → ℕ → List ℕ
  unfolding choose right_entry
  right_rows zero a b = []
  right_rows (suc k) a b = rows_of (choose k a b (right_entry k b)) (right_rows k b)
