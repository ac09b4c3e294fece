-- The theorems of `specs/Theorems`, proved; the third demand is in `Third`, the round trip in `Fits` of `job`.
-- Assumes nothing.
use mathlib.Core.Path.{◌≡◌, refl, sym, ◌∙◌, ap}
use mathlib.Core.Bool.{Bool, true, false, cond}
use mathlib.Core.List.{List, [], ◌∷◌}
use mathlib.Core.Logic.{⊎_elim}
use Prim.Native.Nat.{ℕ, zero, suc, ◌+◌, ◌*◌, ◌-◌, ◌/◌, ◌^◌, ◌≤◌, ◌<◌}
use native.Mathlib.Nat.{eq-or-lt_of_le, zero-div, div-lt_iff_lt-mul, le-div_iff_mul-le}
use native.Mathlib.Omega.{arith}
use borrow.Author.Tests.{eq-eqb, ne_eqb, leb-true, lt-ltb, le-ltb}
use lib.Dec.{ltb, eqb}
use lib.ListN.{length, get_or}
use lib.Pow.{pow_pos}
use Rattle.board.specs.Boards.{SizedBy}
use Rattle.board.proofs.Sums.{total_sum}
use Rattle.rule.specs.declared.Rule.{Rule}
use Rattle.elimination.specs.Order.{row_before, is_worse, is_tied}
use Rattle.elimination.specs.Candidates.{NoBetterRows}
use Rattle.elimination.specs.Kind.{entry, right_entry, right_rows, worth_of}
use Rattle.elimination.specs.Kind as Elimination
use Rattle.elimination.specs.Endings.{total, Solved, no_ending, an_ending}
use Rattle.elimination.specs.Boards.{BoardSolved, the_best, no_board}
use Rattle.std.proofs.lemmas.Bool.{cases_lt}
use Rattle.elimination.proofs.Kind.{entry_more, right_entry_last, right_entry_more, choose_ext}
use Rattle.elimination.proofs.Sums.{tied_equal}
use Rattle.elimination.proofs.Endings.{total_none, total_more, elimination_solves, ending_counts}
use Rattle.elimination.proofs.Boards.{best_is_chosen}
use Rattle.life.specs.Plane.{Still, LeadsTo}
use Rattle.life.specs.Rows.{row_of}
use Rattle.job_kind.specs.Kinds.{halves_of, has_target, kind_digits}
use Rattle.job_kind.specs.declared.Kind.{Kind}
use Rattle.third_demand.specs.Grid.{KeepsGivens, SolutionBy, BoardBy, half_of, held_row, CountsNoBetter, score, population, count_by}
use Rattle.third_demand.specs.Units.{want_by, grid_rows}
use Rattle.score_table.specs.Rows.{cell_worth, row_worth, marks_of, whole_row, row_for}
use Rattle.score_table.specs.ScoreTable.{absent, reads_of}
use Rattle.third_demand.specs.Theorems as Theorems
use Rattle.third_demand.specs.Theorems.{EndingsAreSolutions, BestOrNone, best, none, ChoiceIsOptimal, MirrorOrder, rows_worth, BestWorth, best_ending, RightGridLayer, EntriesRight, live_givens, GivensApart, SameBest, StillIsOwnPredecessor}
use Rattle.score_table.proofs.Marks.{MarkIs, is_dead, is_live, is_free, mark_is, worth_dead, worth_live, worth_free}
use Rattle.score_table.proofs.WholeRows.{rows_whole}
use Rattle.third_demand.proofs.RowLaws.{row_none}
use Rattle.third_demand.proofs.Counts.{worse_no_better, equal_no_better, shifted, shifted_back}
use Rattle.third_demand.proofs.HeldRows.{held_none, held_lt, row_held, comes}
use Rattle.third_demand.proofs.Endings.{kind_laws, solution_ends, ends_solution}
use Rattle.third_demand.proofs.Optimum.{grid_boards, optimal_of}

pub endings_are_solutions : EndingsAreSolutions
endings_are_solutions kind rule allowed w h g board T b = (ends_solution kind allowed b g T, solution_ends kind allowed b g T)

pub choice_is_optimal : ChoiceIsOptimal
choice_is_optimal kind rule allowed w h g T z = go (best_is_chosen (kind_laws kind rule w h g z) (grid_boards kind allowed z g T))
  where
    go : BoardSolved (grid_rows kind rule w h g) h (held_row (halves_of kind) w h) (SolutionBy kind rule w h g) (count_by (has_target kind) w h g) → BestOrNone kind rule w h g
    go (the_best b B rows worth) = best b (optimal_of kind allowed z g T B) rows (tied_equal (has_target kind) worth)
    go (no_board n p) = none n p

-- ---- mirror boards in order
quotient_lt : (n x y : ℕ) → 0 < n → x / n < y / n → x < y
quotient_lt n x y p l =
    let a : x < suc (x / n) * n = (div-lt_iff_lt-mul p).0 (omega arith) in
    let b : suc (x / n) * n ≤ y = (le-div_iff_mul-le p).0 l in
    omega (arith, a, b)

-- the left half is the row's leading digits
half_leads : {w h : ℕ} {cells : List ℕ} → BoardBy true w h cells → (r : ℕ) → r ≤ h → row_of w h cells r / 2 ^ (w / 2) ≡ half_of w h cells r
half_leads {w} {h} {cells} B zero l = rw (row_none w h cells, held_none true w h cells) (zero-div (2 ^ (w / 2)))
half_leads {w} {h} {cells} B (suc r) l =
    ap (λ (x : ℕ). x / 2 ^ (w / 2)) (sym (row_held true B (suc r) l))
    ∙ (rows_whole w (half_of w h cells (suc r)) (B.size.width.even refl) (held_lt true B.bytes r l)).left

module _ {w h : ℕ} {board other : List ℕ} (B : BoardBy true w h board) (O : BoardBy true w h other) (r : ℕ) (inside : r ≤ h) where
  rows_of_halves : half_of w h board r ≡ half_of w h other r → row_of w h board r ≡ row_of w h other r
  rows_of_halves e = sym (row_held true B r inside) ∙ ap (whole_row w) e ∙ row_held true O r inside

  halves_of_rows : row_of w h board r ≡ row_of w h other r → half_of w h board r ≡ half_of w h other r
  halves_of_rows e = sym (half_leads B r inside) ∙ ap (λ (x : ℕ). x / 2 ^ (w / 2)) e ∙ half_leads O r inside

  smaller_row : half_of w h board r < half_of w h other r → row_of w h board r < row_of w h other r
  smaller_row l = quotient_lt (2 ^ (w / 2)) (row_of w h board r) (row_of w h other r) (pow_pos (w / 2)) (rw (half_leads B r inside, half_leads O r inside) l)

-- so rows are compared as their left halves are
module _ {w h : ℕ} {board other : List ℕ} (B : BoardBy true w h board) (O : BoardBy true w h other) (r : ℕ) (inside : r ≤ h) where
  same_test : ltb (half_of w h board r) (half_of w h other r) ≡ ltb (row_of w h board r) (row_of w h other r)
  same_test =
      ⊎_elim (λ (l : half_of w h board r < half_of w h other r). lt-ltb _ _ l ∙ sym (lt-ltb _ _ (smaller_row B O r inside l)))
      (λ (l : half_of w h other r ≤ half_of w h board r). le-ltb _ _ l ∙ sym (le-ltb _ _ (no_greater l)))
      (cases_lt (half_of w h board r) (half_of w h other r))
    where
      no_greater : half_of w h other r ≤ half_of w h board r → row_of w h other r ≤ row_of w h board r
      no_greater l =
          ⊎_elim (λ (e : half_of w h other r ≡ half_of w h board r). omega (arith, rows_of_halves O B r inside e))
          (λ (m : half_of w h other r < half_of w h board r). omega (arith, smaller_row O B r inside m)) (eq-or-lt_of_le l)

same_order : {w h : ℕ} {board other : List ℕ} → BoardBy true w h board → BoardBy true w h other → (r : ℕ) → r ≤ h → (greater_first : Bool)
    → row_before greater_first (half_of w h board r) (half_of w h other r) ≡ row_before greater_first (row_of w h board r) (row_of w h other r)
same_order B O r inside true = same_test O B r inside
same_order B O r inside false = same_test B O r inside

pub mirror_order : MirrorOrder
mirror_order greater_first w h board other B O = (
  λ P. record {
    place = P.place;
    inside = P.inside;
    equal = λ r l. rows_of_halves B O (suc r) (omega (arith, l, P.inside)) (P.equal r l);
    decides = sym (same_order B O (suc P.place) P.inside greater_first) ∙ P.decides;
  },
  λ P. record {
    place = P.place;
    inside = P.inside;
    equal = λ r l. halves_of_rows B O (suc r) (omega (arith, l, P.inside)) (P.equal r l);
    decides = same_order B O (suc P.place) P.inside greater_first ∙ P.decides;
  },
)

-- ---- entries
module _ (kind : Kind) (rule : Rule) (w h : ℕ) (g : List ℕ) where
  abbrev rows : Elimination.Kind ℕ
  rows = grid_rows kind rule w h g

  worth_total : (cs : List ℕ) → rows_worth kind w h g cs ≡ total rows cs
  unfolding rows_worth
  worth_total [] = sym (total_none rows)
  worth_total (c ∷ cs) =
      ap (λ (x : ℕ). row_worth w (marks_of (has_target kind) g) ((h - suc (length cs)) * w) (row_for (want_by kind) w c) + x) (worth_total cs) ∙ sym (total_more rows c cs)

  module _ (z : SizedBy (halves_of kind) w h) where
    -- an entry is the best worth
    right_best : (k a b : ℕ) → k ≤ h → BestWorth kind rule w h g k a b (right_entry rows k a b)
    right_best k a b l = go (elimination_solves rows h (kind_laws kind rule w h g z) k a b l)
      where
        go : Solved rows k a b (right_entry rows k a b) (right_rows rows k a b) → BestWorth kind rule w h g k a b (right_entry rows k a b)
        go (no_ending n p q) = Theorems.no_ending n p
        go (an_ending T) =
            let cs = right_rows rows k a b in
            best_ending cs T.lawful (worth_total cs ∙ tied_equal (has_target kind) T.worth)
            (leb-true (right_entry rows k a b) (want_by kind).limit (ending_counts rows (kind_laws kind rule w h g z) k a b l cs T.lawful)) (λ ds D. rw (worth_total ds) (most ds (T.unbeaten ds D)))
          where
            most : (ds : List ℕ) → NoBetterRows rows.comparison (total rows ds) ds (right_entry rows k a b) (right_rows rows k a b)
                → CountsNoBetter (has_target kind) (total rows ds) (right_entry rows k a b)
            most ds (is_worse p) = worse_no_better (has_target kind) (total rows ds) (right_entry rows k a b) p
            most ds (is_tied e f) = equal_no_better (has_target kind) (total rows ds) (right_entry rows k a b) (tied_equal (has_target kind) e)

  -- over right entries the rule gives a right entry
  rule_right : (i a b : ℕ) → b < 2 ^ kind_digits kind w → (t : List ℕ) → (i < h → RightGridLayer kind rule w h g t (i + 1)) → (k : ℕ) → h - i ≡ k
      → entry rows k a b (reads_of (kind_digits kind w) t (i + 1) b) ≡ right_entry rows k a b
  rule_right i a b l t right zero e = sym (right_entry_last rows a b (reads_of (kind_digits kind w) t (i + 1) b))
  rule_right i a b l t right (suc k) e =
      let d : h - (i + 1) ≡ k = omega arith in
      let reads = reads_of (kind_digits kind w) t (i + 1) b in
      entry_more rows k a b reads
      ∙ ap (worth_of absent) (choose_ext rows k a b reads (right_entry rows k b) (λ c m. rw d at (right (omega arith) b c l m)))
      ∙ sym (right_entry_more rows k a b ∙ entry_more rows k a b (right_entry rows k b))

pub entries_right : EntriesRight
entries_right kind rule w h g z i a b l q = record {
  from_below = λ t right. rule_right kind rule w h g i a b q t right (h - i) refl;
  means = right_best kind rule w h g z (h - i) a b (omega arith);
}

-- ---- the score and all live cells
-- a live cell is free, or given live
cell_apart : (mark cell : ℕ) → (mark ≡ 1 → cell ≡ 0) → (mark ≡ 2 → cell ≡ 1) → cell ≡ cell_worth mark cell + cond (eqb mark 2) 1 0
cell_apart mark cell d l = go (mark_is mark)
  where
    go : MarkIs mark → cell ≡ cell_worth mark cell + cond (eqb mark 2) 1 0
    go (is_dead e) = rw (ne_eqb mark 2 (omega arith), worth_dead mark cell e) (omega (arith, d e))
    go (is_live e) = rw (eq-eqb mark 2 e, worth_live mark cell e) (omega (arith, l e))
    go (is_free p q) = rw (ne_eqb mark 2 q) (omega (arith, worth_free mark cell p q))

pub givens_apart : GivensApart
unfolding population score live_givens
givens_apart w h g board K =
    total_sum (λ p. get_or board p 0) (λ p. cell_worth (get_or g p 0) (get_or board p 0)) (λ p. cond (eqb (get_or g p 0) 2) 1 0) (w * h)
    (λ p l. cell_apart (get_or g p 0) (get_or board p 0) (K.dead p l) (K.live p l))

-- all live cells are what a board counts and the given live cells, of which there are none with a target
apart : (target : Bool) (w h : ℕ) (g a : List ℕ) → KeepsGivens w h (marks_of target g) a → population w h a ≡ count_by target w h g a + cond target 0 (live_givens w h g)
apart true w h g a K = omega arith
apart false w h g a K = givens_apart w h g a K

pub same_best : SameBest
same_best kind rule w h g board = (
  λ B. record {
    solution = B.solution;
    unbeaten = λ a S. shifted (has_target kind) _ _ given (all a S) (all board B.solution) (B.unbeaten a S);
    earliest = λ a S e. B.earliest a S (omega (arith, all a S, all board B.solution));
  },
  λ B. record {
    solution = B.solution;
    unbeaten = λ a S. shifted_back (has_target kind) _ _ given (all a S) (all board B.solution) (B.unbeaten a S);
    earliest = λ a S e. B.earliest a S (omega (arith, all a S, all board B.solution));
  },
)
  where
    given : ℕ
    given = cond (has_target kind) 0 (live_givens w h g)

    all : (a : List ℕ) → SolutionBy kind rule w h g a → population w h a ≡ count_by (has_target kind) w h g a + given
    all a S = apart (has_target kind) w h g a (comes kind S).keeps

-- ---- predecessors
pub still_is_own_predecessor : StillIsOwnPredecessor
unfolding Still LeadsTo
still_is_own_predecessor rule w h board b = (λ P. P.leads, λ s. record { bytes = b; leads = s })
