-- Document 01, "The score table": the entries of a layer, for any number of row codes. The numbers that a rule reads, a layer that is right, and
-- the filling of entries, one by one and a whole layer at once.
-- Assumes nothing.
use Rattle.std.specs.Prelude.{◌≡◌, List, ◌⊎◌, ℕ, zero, suc, ◌+◌, ◌*◌, ◌/◌, ◌%◌, ◌≤◌, ◌<◌, length, get_or, set}
use Rattle.elimination.specs.Kind.{Kind, entry, right_entry}

-- two layers of q entries lie apart
abbrev pub Apart : ℕ → ℕ → ℕ → Type 0
Apart q source target = (source + q ≤ target) ⊎ (target + q ≤ source)

module _ {X : Type 0} (G : Kind X) where
  -- the entries of a layer: one for each two rows a, b, at a times the row codes plus b
  abbrev pub layer_size : ℕ
  layer_size = G.codes * G.codes

  -- the number read for row c below row b, from the layer that starts at `source`
  unfoldable pub reads : List X → ℕ → ℕ → ℕ → X
  reads t source b c = get_or t (source + (b * G.codes + c)) G.start

  -- what entry j of the layer with k rows after it has to be
  unfoldable pub right_at : ℕ → ℕ → X
  right_at k j = right_entry G k (j / G.codes) (j % G.codes)

  -- the layer with k rows after it that starts at `source` is right
  abbrev pub RightLayer : List X → ℕ → ℕ → Type 0
  RightLayer t source k = (j : ℕ) → j < layer_size → get_or t (source + j) G.start ≡ right_at k j

  -- the table once entry j of the layer that starts at `target` and has k rows after it is filled, by the layer that starts at `source`
  unfoldable pub fill_entry : ℕ → ℕ → ℕ → ℕ → List X → List X
  fill_entry k source target j t = set t (target + j) (entry G k (j / G.codes) (j % G.codes) (reads t source (j % G.codes)))

  -- once the n entries from entry j on are filled, one after the other
  unfoldable pub fill_entries : ℕ → ℕ → ℕ → ℕ → ℕ → List X → List X
  fill_entries k source target j zero t = t
  fill_entries k source target j (suc n) t = fill_entry k source target (j + n) (fill_entries k source target j n t)

  -- the layer at `target` has every entry by what the layer at `source` held before; nothing else has changed
  pub record LayerFilled (k source target : ℕ) (old new : List X) : Type 0 where
    pub long : length new ≡ length old
    pub inside : (j : ℕ) → j < layer_size → get_or new (target + j) G.start ≡ entry G k (j / G.codes) (j % G.codes) (reads old source (j % G.codes))
    pub before : (p : ℕ) → p < target → get_or new p G.start ≡ get_or old p G.start
    pub after : (p : ℕ) → target + layer_size ≤ p → get_or new p G.start ≡ get_or old p G.start

  -- THE THEOREM of a layer: of two layers apart, filling the one at once is filling its entries one after the other
  abbrev pub LayerIsEntries : Type 0
  LayerIsEntries = (k source target : ℕ) (old new : List X) → Apart layer_size source target → target + layer_size ≤ length old
      → LayerFilled k source target old new → new ≡ fill_entries k source target 0 layer_size old
