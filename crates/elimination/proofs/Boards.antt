-- The rows of a board are an ending exactly when they may stand, and row elimination chooses the board that is wanted.
-- Assumes nothing.
use mathlib.Core.Path.{◌≡◌, refl, sym, ◌∙◌, ap, subst}
use mathlib.Core.Bool.{Bool, true, false, ◌&&◌, ◌||◌, true≢false}
use mathlib.Core.List.{List, ◌∷◌}
use mathlib.Core.Logic.{◌⊎◌, inl, inr, ⊎_elim}
use Prim.Native.Nat.{ℕ, zero, suc, ◌+◌, ◌-◌, ◌≤◌, ◌<◌}
use native.Mathlib.Nat.{eq-or-lt_of_le}
use native.Mathlib.Omega.{arith}
use borrow.Author.Tests.{ltb-false, lt-ltb, eqb-true, eqb-false}
use lib.Dec.{eqb}
use lib.ListN.{length}
use Rattle.elimination.specs.Order.{row_before, rows_before, is_worse, is_tied}
use Rattle.elimination.specs.Candidates.{NoBetterRows}
use Rattle.elimination.specs.Kind.{Kind, right_entry, right_rows}
use Rattle.elimination.specs.Endings.{Ending, BestEnding, Solved, no_ending, an_ending, total, SameWorth, Laws}
use Rattle.elimination.specs.Sums.{SumRules, sum_kind}
use Rattle.elimination.specs.Boards.{rows_from, previous_row, Earlier, RowsMayStand, EndingsStand, BoardLaws, BestBoard, BoardSolved, the_best, no_board, BestIsChosen}
use Rattle.elimination.proofs.Order.{tied_sym, tied_trans, worse_tied}
use Rattle.elimination.proofs.Endings.{total_none, total_more, elimination_solves}

-- ---- endings
module _ {X : Type 0} (G : Kind X) (h : ℕ) (row : ℕ → ℕ) where
  abbrev EndsFrom : ℕ → ℕ → Type 0
  EndsFrom k r = Ending G k (previous_row row r) (row r) (rows_from row r k)

  stands_end : RowsMayStand G h row → (k r : ℕ) → r + k ≡ h → EndsFrom k r
  unfolding rows_from
  stands_end S zero r e = let z : h ≡ r = omega arith in subst (λ (x : ℕ). G.may_end (previous_row row x) (row x) ≡ true) z S.final
  stands_end S (suc k) r e =
      let z : h - suc r ≡ k = omega arith in
      (S.below r (omega arith), rw z at (S.each r (omega arith)), stands_end S k (suc r) (omega arith))

  -- row i + 1 of an ending
  record StandsAt (i : ℕ) : Type 0 where
    low : row (suc i) < G.codes
    may : G.may (h - suc i) (previous_row row i) (row i) (row (suc i)) ≡ true

  end_stands : (k r : ℕ) → r + k ≡ h → EndsFrom k r → (i : ℕ) → r ≤ i → i < h → StandsAt i
  unfolding rows_from
  end_stands zero r e E i l m = absurd (omega arith)
  end_stands (suc k) r e E i l m =
      ⊎_elim
      (λ (q : r ≡ i). let z : h - suc r ≡ k = omega arith in subst StandsAt q (record { low = E.0; may = rw z E.1 }))
      (λ (q : r < i). end_stands k (suc r) (omega arith) E.2 i q m) (eq-or-lt_of_le l)

  end_final : (k r : ℕ) → r + k ≡ h → EndsFrom k r → G.may_end (previous_row row h) (row h) ≡ true
  unfolding rows_from
  end_final zero r e E = let z : r ≡ h = omega arith in subst (λ (x : ℕ). G.may_end (previous_row row x) (row x) ≡ true) z E
  end_final (suc k) r e E = end_final k (suc r) (omega arith) E.2

-- THE THEOREM of rows
pub endings_stand : {X : Type 0} (G : Kind X) (h : ℕ) → EndingsStand G h
endings_stand G h row e = (
  λ E.
      let E₀ = subst (λ (x : ℕ). Ending G h 0 x (rows_from row 0 h)) (sym e) E in
      let at = end_stands G h row h 0 (omega arith) E₀ in
      record { below = λ r l. (at r (omega arith) l).low; each = λ r l. (at r (omega arith) l).may; final = end_final G h row h 0 (omega arith) E₀ },
  λ S. subst (λ (x : ℕ). Ending G h 0 x (rows_from row 0 h)) e (stands_end G h row S h 0 (omega arith)),
)

-- ---- sums
from_length : (row : ℕ → ℕ) (r k : ℕ) → length (rows_from row r k) ≡ k
unfolding rows_from
from_length row r zero = refl
from_length row r (suc k) = ap suc (from_length row (suc r) k)

-- a count that grows by each row's worth is what the rows are worth
module _ (R : SumRules) (h : ℕ) (row : ℕ → ℕ) (value : ℕ → ℕ) (more : (r : ℕ) → r < h → value (suc r) ≡ value r + R.worth (h - suc r) (row (suc r))) where
  rows_total : (k r : ℕ) → r + k ≡ h → value h ≡ value r + total (sum_kind R) (rows_from row r k)
  unfolding rows_from
  rows_total zero r l = let e : h ≡ r = omega arith in omega (arith, total_none (sum_kind R), ap value e)
  rows_total (suc k) r l =
      let c = row (suc r) in
      let cs = rows_from row (suc r) k in
      let e : length cs ≡ h - suc r = omega (arith, from_length row (suc r) k) in
      let m : total (sum_kind R) (c ∷ cs) ≡ R.worth (h - suc r) c + total (sum_kind R) cs =
      total_more (sum_kind R) c cs ∙ ap (λ (x : ℕ). R.worth x c + total (sum_kind R) cs) e in
      omega (arith, rows_total k (suc r) (omega arith), more r (omega arith), m)

  pub rows_worth_lem : value 0 ≡ 0 → value h ≡ total (sum_kind R) (rows_from row 0 h)
  rows_worth_lem e = omega (arith, rows_total h 0 (omega arith))

-- ---- board order
-- rows in the same place of two equal lists
pub from_at : (row other : ℕ → ℕ) (k r : ℕ) → rows_from row r k ≡ rows_from other r k → (i : ℕ) → r ≤ i → i < r + k → row (suc i) ≡ other (suc i)
unfolding rows_from
from_at row other zero r e i l m = absurd (omega arith)
from_at row other (suc k) r e i l m =
    ⊎_elim (λ (q : r ≡ i). subst (λ (x : ℕ). row (suc x) ≡ other (suc x)) q (cc))
    (λ (q : r < i). from_at row other k (suc r) (cc) i q (omega arith)) (eq-or-lt_of_le l)

-- a row that isn't before another and isn't equal to it comes after
row_after : (greater_first : Bool) (c d : ℕ) → row_before greater_first c d ≡ false → eqb c d ≡ false → row_before greater_first d c ≡ true
row_after true c d p q = lt-ltb c d (omega (arith, ltb-false d c p, eqb-false c d q))
row_after false c d p q = lt-ltb d c (omega (arith, ltb-false c d p, eqb-false c d q))

module _ (greater_first : Bool) (other row : ℕ → ℕ) where
  data Compared (r k : ℕ) : Type 0 where
    same : ((i : ℕ) → r ≤ i → i < r + k → other (suc i) ≡ row (suc i)) → Compared r k
    later : (i : ℕ) → r ≤ i → i < r + k → ((j : ℕ) → r ≤ j → j < i → row (suc j) ≡ other (suc j)) → row_before greater_first (row (suc i)) (other (suc i)) ≡ true → Compared r k

  compare : (k r : ℕ) → rows_before greater_first (rows_from other r k) (rows_from row r k) ≡ false → Compared r k
  unfolding rows_from rows_before
  compare zero r e = same (λ i l m. absurd (omega arith))
  compare (suc k) r e = go (row_before greater_first (other (suc r)) (row (suc r))) refl (eqb (other (suc r)) (row (suc r))) refl e (compare k (suc r))
    where
      more : other (suc r) ≡ row (suc r) → Compared (suc r) k → Compared r (suc k)
      more q (same f) =
          same (λ i l m. ⊎_elim (λ (z : r ≡ i). subst (λ (x : ℕ). other (suc x) ≡ row (suc x)) z q) (λ (z : r < i). f i z (omega arith)) (eq-or-lt_of_le l))
      more q (later i l m f s) =
          later i (omega arith) (omega arith)
          (λ j a b. ⊎_elim (λ (z : r ≡ j). subst (λ (x : ℕ). row (suc x) ≡ other (suc x)) z (sym q)) (λ (z : r < j). f j z b) (eq-or-lt_of_le a)) s

      go : (t : Bool) → row_before greater_first (other (suc r)) (row (suc r)) ≡ t → (u : Bool) → eqb (other (suc r)) (row (suc r)) ≡ u
          → t || (u && rows_before greater_first (rows_from other (suc r) k) (rows_from row (suc r) k)) ≡ false
          → (rows_before greater_first (rows_from other (suc r) k) (rows_from row (suc r) k) ≡ false → Compared (suc r) k) → Compared r (suc k)
      go true p u q e ih = absurd (true≢false e)
      go false p true q e ih = more (eqb-true (other (suc r)) (row (suc r)) q) (ih e)
      go false p false q e ih =
          later r (omega arith) (omega arith) (λ j a b. absurd (omega arith)) (row_after greater_first (other (suc r)) (row (suc r)) p q)

-- ---- the board that is wanted
module _ {X : Type 0} {G : Kind X} {h : ℕ} {B : Type 0} {row : B → ℕ → ℕ} {Solution : B → Type 0} {count : B → X} {board_of : List ℕ → B} where
  module _ (K : BoardLaws G h row Solution count board_of) {x : X} {cs : List ℕ} (T : BestEnding G h 0 0 x cs) where
    -- it counts what its rows are worth
    pub board_total : count (board_of cs) ≡ total G cs
    board_total = K.counts (board_of cs) (K.solves cs T.lawful) ∙ ap (total G) (K.rows cs T.lawful)

    board_worth_lem : SameWorth G (count (board_of cs)) x
    board_worth_lem = rw board_total T.worth

    module _ (L : Laws G h) where
      module _ (other : B) (S : Solution other) where
        abbrev Beaten : Type 0
        Beaten = NoBetterRows G.comparison (total G (rows_from (row other) 0 h)) (rows_from (row other) 0 h) x cs

        -- the board isn't worse than what is worse than it, or tied with it
        not_worse : Beaten → G.comparison.worse (count (board_of cs)) (count other) ≡ false
        not_worse (is_worse p) = go (G.comparison.worse (count (board_of cs)) (count other)) refl
          where
            go : (t : Bool) → G.comparison.worse (count (board_of cs)) (count other) ≡ t → t ≡ false
            go false q = refl
            go true q =
                let a = rw (K.counts other S) at q in
                let b = worse_tied L.ordered p (tied_sym L.ordered board_worth_lem) in
                absurd (true≢false (sym (L.ordered.transitive a b) ∙ L.ordered.irreflexive (count (board_of cs))))
        not_worse (is_tied e f) = (tied_trans L.ordered board_worth_lem (rw (← K.counts other S) at (tied_sym L.ordered e))).not_worse

        placed : Compared G.comparison.greater_first (row other) (row (board_of cs)) 0 h → (other ≡ board_of cs) ⊎ Earlier G.comparison.greater_first h (row (board_of cs)) (row other)
        placed (same f) = inl (K.same other (board_of cs) S (K.solves cs T.lawful) (λ r l. f r (omega arith) (omega arith)))
        placed (later i l m f s) = inr (record { place = i; inside = omega arith; equal = λ r q. f r (omega arith) q; decides = s })

        earliest : SameWorth G (count other) (count (board_of cs)) → Beaten → (other ≡ board_of cs) ⊎ Earlier G.comparison.greater_first h (row (board_of cs)) (row other)
        earliest q (is_worse p) =
            let a = rw (← K.counts other S) at p in
            absurd (true≢false (sym a ∙ (tied_trans L.ordered q board_worth_lem).not_worse))
        earliest q (is_tied e f) = placed (compare G.comparison.greater_first (row other) (row (board_of cs)) h 0 (rw (K.rows cs T.lawful) f))

      pub best_board : BestBoard G h row Solution count (board_of cs)
      best_board = record {
        solution = K.solves cs T.lawful;
        unbeaten = λ other S. not_worse other S (beaten other S);
        earliest = λ other S q. earliest other S q (beaten other S);
      }
        where
          beaten : (other : B) (S : Solution other) → Beaten other S
          beaten other S = T.unbeaten (rows_from (row other) 0 h) (K.ends other S)

  -- THE THEOREM of boards
  pub best_is_chosen : BestIsChosen G h row Solution count board_of
  best_is_chosen L K = go (elimination_solves G h L h 0 0 (omega arith))
    where
      go : Solved G h 0 0 (right_entry G h 0 0) (right_rows G h 0 0) → BoardSolved G h row Solution count
      go (no_ending n p q) = no_board (λ b S. n (rows_from (row b) 0 h) (K.ends b S)) p
      go (an_ending T) = the_best (board_of (right_rows G h 0 0)) (best_board K T L) (K.rows (right_rows G h 0 0) T.lawful) (board_worth_lem K T)
