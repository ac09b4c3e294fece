-- What an entry and a choice are to come to: endings of a board, and the one that is wanted. The theorem of row elimination, for every kind of
-- job that keeps a few laws.
-- Assumes nothing.
use Rattle.std.specs.Prelude.{◌≡◌, Bool, true, false, List, [], ◌∷◌, ℕ, zero, suc, ◌≤◌, ◌<◌, length}
use Rattle.elimination.specs.Order.{StrictWeakOrder, Tied}
use Rattle.elimination.specs.Candidates.{MergeTied, NoBetterRows}
use Rattle.elimination.specs.Kind.{Kind, right_entry, right_rows}

module _ {X : Type 0} (G : Kind X) where
  -- the k rows cs may stand below a over b, and the board end there
  abbrev pub Ending : ℕ → ℕ → ℕ → List ℕ → Type 0
  Ending zero a b [] = G.may_end a b ≡ true
  Ending zero a b (c ∷ cs) = ⊥
  Ending (suc k) a b [] = ⊥
  Ending (suc k) a b (c ∷ cs) = (c < G.codes) × (G.may k a b c ≡ true) × Ending k b c cs

  -- no k rows are an ending below a over b
  abbrev pub NoEnding : ℕ → ℕ → ℕ → Type 0
  NoEnding k a b = (ds : List ℕ) → Ending k a b ds → ⊥

  -- what the rows are worth
  unfoldable pub total : List ℕ → X
  total [] = G.start
  total (c ∷ cs) = G.add (length cs) c (total cs)

  -- neither worth is worse
  abbrev pub SameWorth : X → X → Type 0
  SameWorth x y = Tied G.comparison.worse x y

  -- cs is the ending that is wanted, and x its worth: it is one, none is better, and none as good comes before it
  pub record BestEnding (k a b : ℕ) (x : X) (cs : List ℕ) : Type 0 where
    pub lawful : Ending k a b cs
    pub worth : SameWorth (total cs) x
    pub unbeaten : (ds : List ℕ) → Ending k a b ds → NoBetterRows G.comparison (total ds) ds x cs

  -- x and cs answer what is wanted below a over b: the wanted ending with its worth, or none where there is none
  pub data Solved (k a b : ℕ) (x : X) (cs : List ℕ) : Type 0 where
    no_ending : NoEnding k a b → x ≡ G.absent → cs ≡ [] → Solved k a b x cs
    an_ending : BestEnding k a b x cs → Solved k a b x cs

  -- what a kind of job has to show, for boards of up to h rows
  pub record Laws (h : ℕ) : Type 0 where
    -- worths are ordered
    pub ordered : StrictWeakOrder G.comparison.worse
    -- the number for none counts as none
    pub absent_not_counted : G.counts G.absent ≡ false
    -- a row above keeps the better rest better, and tied rests tied
    pub add_worse : {k c : ℕ} {x y : X} → G.comparison.worse x y ≡ true → G.comparison.worse (G.add k c x) (G.add k c y) ≡ true
    pub add_tied : {k c : ℕ} {x y : X} → SameWorth x y → SameWorth (G.add k c x) (G.add k c y)
    -- rows may be counted in any order
    pub add_swap : (k c j d : ℕ) (x : X) → G.add k c (G.add j d x) ≡ G.add j d (G.add k c x)
    -- a tie's worth is tied with both
    pub merge_tied : MergeTied G.comparison
    -- the worths that rows can come to; those of an ending count
    pub valid : X → Bool
    pub valid_start : valid G.start ≡ true
    pub valid_add : {k c : ℕ} {x : X} → valid x ≡ true → valid (G.add k c x) ≡ true
    pub valid_merge : {x y : X} → valid x ≡ true → valid y ≡ true → valid (G.comparison.merge x y) ≡ true
    pub valid_counts : (k a b : ℕ) (cs : List ℕ) (x : X) → k ≤ h → Ending k a b cs → SameWorth (total cs) x → valid x ≡ true → G.counts x ≡ true

  -- THE THEOREM of row elimination: the right entry and the rows that right entries choose are what is wanted
  abbrev pub EliminationSolves : ℕ → Type 0
  EliminationSolves h = Laws h → (k a b : ℕ) → k ≤ h → Solved k a b (right_entry G k a b) (right_rows G k a b)
