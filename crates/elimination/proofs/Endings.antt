-- Row elimination finds the ending that is wanted, or none where there is none: by induction on the rows to come, since a row above keeps the
-- better rest better, and a scan finds the best of the first rows with their best rests.
-- Assumes nothing.
use mathlib.Core.Path.{◌≡◌, refl, sym, ◌∙◌, ap}
use mathlib.Core.Bool.{Bool, true, false, cond, true≢false}
use Rattle.std.specs.Prelude.{Some}
use mathlib.Core.List.{List, [], ◌∷◌}
use Prim.Native.Nat.{ℕ, zero, suc, ◌≤◌, ◌<◌}
use native.Mathlib.Omega.{arith}
use lib.ListN.{length}
use Rattle.elimination.specs.Order.{is_worse, is_tied}
use Rattle.elimination.specs.Candidates.{Choice, NoBetterRow, NoBetterRows, BestCandidate, Found, none_found, best_found}
use Rattle.elimination.specs.Kind.{Kind, worth_of, rows_of, offer, choose, entry, right_entry, right_rows}
use Rattle.elimination.specs.Endings.{Ending, NoEnding, total, BestEnding, Solved, no_ending, an_ending, Laws, EliminationSolves}
use Rattle.elimination.proofs.Order.{rows_before_none, not_rows_before, tied_refl, tied_trans, worse_tied, tied_worse}
use Rattle.elimination.proofs.Candidates.{scan_finds_best, chosen_keeps}
use Rattle.elimination.proofs.Kind.{Offers, offer_some, some_offer}

module _ {X : Type 0} (G : Kind X) where
  pub ending_length : (k a b : ℕ) (cs : List ℕ) → Ending G k a b cs → length cs ≡ k
  ending_length zero a b [] e = refl
  ending_length zero a b (c ∷ cs) e = absurd e
  ending_length (suc k) a b [] e = absurd e
  ending_length (suc k) a b (c ∷ cs) e = ap suc (ending_length k b c cs e.2)

  pub total_none : total G [] ≡ G.start
  unfolding total
  total_none = refl

  pub total_more : (c : ℕ) (cs : List ℕ) → total G (c ∷ cs) ≡ G.add (length cs) c (total G cs)
  unfolding total
  total_more c cs = refl

  pub total_ending : (k b c : ℕ) (cs : List ℕ) → Ending G k b c cs → total G (c ∷ cs) ≡ G.add k c (total G cs)
  total_ending k b c cs e = total_more c cs ∙ ap (λ (m : ℕ). G.add m c (total G cs)) (ending_length k b c cs e)

module _ {X : Type 0} (G : Kind X) {h : ℕ} (L : Laws G h) where
  -- `Solved`, with a worth that rows can come to
  data SolvedValid (k a b : ℕ) (x : X) (cs : List ℕ) : Type 0 where
    valid_none : NoEnding G k a b → x ≡ G.absent → cs ≡ [] → SolvedValid k a b x cs
    valid_ending : BestEnding G k a b x cs → L.valid x ≡ true → SolvedValid k a b x cs

  -- one row more, above endings that are solved
  module _ (k a b : ℕ) (fits : suc k ≤ h) (ih : (c : ℕ) → SolvedValid k b c (right_entry G k b c) (right_rows G k b c)) where
    -- below b over c there is an ending: its right entry counts
    record Rest (c : ℕ) : Type 0 where
      counted : G.counts (right_entry G k b c) ≡ true
      optimal : BestEnding G k b c (right_entry G k b c) (right_rows G k b c)
      valid : L.valid (right_entry G k b c) ≡ true

    rest_of_ending : (c : ℕ) (ds : List ℕ) → Ending G k b c ds → Rest c
    rest_of_ending c ds e = go (ih c)
      where
        go : SolvedValid k b c (right_entry G k b c) (right_rows G k b c) → Rest c
        go (valid_none f p q) = absurd (f ds e)
        go (valid_ending T v) = record {
          counted = L.valid_counts k b c (right_rows G k b c) (right_entry G k b c) (omega arith) T.lawful T.worth v;
          optimal = T;
          valid = v;
        }

    rest_of_counted : (c : ℕ) → G.counts (right_entry G k b c) ≡ true → Rest c
    rest_of_counted c e = go (ih c)
      where
        go : SolvedValid k b c (right_entry G k b c) (right_rows G k b c) → Rest c
        go (valid_none f p q) = absurd (true≢false (sym e ∙ ap G.counts p ∙ L.absent_not_counted))
        go (valid_ending T v) = record { counted = e; optimal = T; valid = v }

    no_ending_more : ((c : ℕ) (x : X) → c < G.codes → offer G k a b (right_entry G k b) c ≡ Some x → ⊥) → NoEnding G (suc k) a b
    no_ending_more f [] e = e
    no_ending_more f (c ∷ ds) e =
        f c (G.add k c (right_entry G k b c)) e.0 (some_offer G k a b (right_entry G k b) c e.1 (rest_of_ending c ds e.2).counted)

    -- the rest ds is no better than d's right rows, and d with these is no better than r, worth y: d with ds isn't either
    no_better_cons : (r : ℕ) (y : X) (d : ℕ) (ds : List ℕ) → NoBetterRows G.comparison (total G ds) ds (right_entry G k b d) (right_rows G k b d)
        → NoBetterRow G.comparison (G.add k d (right_entry G k b d)) d y r
        → NoBetterRows G.comparison (G.add k d (total G ds)) (d ∷ ds) y (r ∷ right_rows G k b r)
    no_better_cons r y d ds (is_worse p) (is_worse q) = is_worse (L.ordered.transitive (L.add_worse p) q)
    no_better_cons r y d ds (is_worse p) (is_tied e g) = is_worse (worse_tied L.ordered (L.add_worse p) e)
    no_better_cons r y d ds (is_tied e g) (is_worse q) = is_worse (tied_worse L.ordered (L.add_tied e) q)
    no_better_cons r y d ds (is_tied e g) (is_tied e' g') =
        is_tied (tied_trans L.ordered (L.add_tied e) e') (not_rows_before G.comparison.greater_first d r ds (right_rows G k b r) g' (λ q. rw (← q) g))

    optimal_more : (r : ℕ) (y : X) → BestCandidate G.comparison (offer G k a b (right_entry G k b)) G.codes r y
        → BestEnding G (suc k) a b y (r ∷ right_rows G k b r)
    optimal_more r y C = record {
      lawful = (C.inside, o.allowed, T.lawful);
      worth = rw (total_ending G k b r (right_rows G k b r) T.lawful) (tied_trans L.ordered (L.add_tied T.worth) (rw o.worth at C.tied));
      unbeaten = unbeaten;
    }
      where
        o : Offers G k a b (right_entry G k b) r C.worth
        o = offer_some G k a b (right_entry G k b) r C.worth C.offered

        T : BestEnding G k b r (right_entry G k b r) (right_rows G k b r)
        T = (rest_of_counted r o.counted).optimal

        unbeaten : (ds : List ℕ) → Ending G (suc k) a b ds → NoBetterRows G.comparison (total G ds) ds y (r ∷ right_rows G k b r)
        unbeaten [] e = absurd e
        unbeaten (d ∷ ds) e =
            let c = rest_of_ending d ds e.2 in
            rw (total_ending G k b d ds e.2)
            (no_better_cons r y d ds (c.optimal.unbeaten ds e.2)
            (C.unbeaten d (G.add k d (right_entry G k b d)) e.0 (some_offer G k a b (right_entry G k b) d e.1 c.counted)))

    offers_valid : (c : ℕ) (x : X) → offer G k a b (right_entry G k b) c ≡ Some x → L.valid x ≡ true
    offers_valid c x e =
        let o = offer_some G k a b (right_entry G k b) c x e in
        rw o.worth (L.valid_add (rest_of_counted c o.counted).valid)

    solved_more : {o : Choice X} → choose G k a b (right_entry G k b) ≡ o → Found G.comparison (offer G k a b (right_entry G k b)) G.codes o
        → SolvedValid (suc k) a b (worth_of G.absent o) (rows_of o (right_rows G k b))
    unfolding choose
    solved_more e (none_found f) = valid_none (no_ending_more f) refl refl
    solved_more e (best_found r y C) =
        valid_ending (optimal_more r y C)
        (chosen_keeps G.comparison L.valid (λ x y p q. L.valid_merge p q) (offer G k a b (right_entry G k b)) offers_valid G.codes r y e)

  -- no row more: the board ends, or may not
  solved_last : (a b : ℕ) (t : Bool) → G.may_end a b ≡ t → SolvedValid zero a b (cond t G.start G.absent) []
  unfolding total
  solved_last a b true e = valid_ending (record { lawful = e; worth = tied_refl L.ordered G.start; unbeaten = unbeaten }) L.valid_start
    where
      unbeaten : (ds : List ℕ) → Ending G zero a b ds → NoBetterRows G.comparison (total G ds) ds G.start []
      unbeaten [] f = is_tied (tied_refl L.ordered G.start) (rows_before_none G.comparison.greater_first)
      unbeaten (d ∷ ds) f = absurd f
  solved_last a b false e = valid_none no_ending_lem refl refl
    where
      no_ending_lem : NoEnding G zero a b
      no_ending_lem [] f = true≢false (sym f ∙ e)
      no_ending_lem (d ∷ ds) f = f

  solved_valid : (k a b : ℕ) → k ≤ h → SolvedValid k a b (right_entry G k a b) (right_rows G k a b)
  unfolding right_entry entry choose right_rows
  solved_valid zero a b fits = solved_last a b (G.may_end a b) refl
  solved_valid (suc k) a b fits =
      solved_more k a b fits (λ c. solved_valid k b c (omega arith)) refl
      (scan_finds_best G.comparison L.ordered L.merge_tied (offer G k a b (right_entry G k b)) G.codes)

-- THE THEOREM of row elimination
pub elimination_solves : {X : Type 0} (G : Kind X) (h : ℕ) → EliminationSolves G h
elimination_solves G h L k a b fits = go (solved_valid G L k a b fits)
  where
    go : SolvedValid G L k a b (right_entry G k a b) (right_rows G k a b) → Solved G k a b (right_entry G k a b) (right_rows G k a b)
    go (valid_none f p q) = no_ending f p q
    go (valid_ending T v) = an_ending T

-- the right entry counts where there is an ending
module _ {X : Type 0} (G : Kind X) {h : ℕ} (L : Laws G h) (k a b : ℕ) (fits : k ≤ h) where
  pub ending_counts : (ds : List ℕ) → Ending G k a b ds → G.counts (right_entry G k a b) ≡ true
  ending_counts ds e = go (solved_valid G L k a b fits)
    where
      go : SolvedValid G L k a b (right_entry G k a b) (right_rows G k a b) → G.counts (right_entry G k a b) ≡ true
      go (valid_none f p q) = absurd (f ds e)
      go (valid_ending T v) = L.valid_counts k a b (right_rows G k a b) (right_entry G k a b) fits T.lawful T.worth v
