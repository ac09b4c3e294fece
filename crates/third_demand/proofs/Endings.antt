-- Row elimination over a grid's rows is lawful, and its endings are the boards that a job of the kind seeks: the still boards that keep the givens, of a
-- mirror job the mirror boards among them, and with a target the boards that step to it.
-- Assumes nothing.
use mathlib.Core.Path.{◌≡◌, refl, sym, ◌∙◌, subst}
use mathlib.Core.Bool.{Bool, true, false, cond, ◌&&◌}
use mathlib.Core.List.{List}
use mathlib.Core.Logic.{⊎_elim}
use Prim.Native.Nat.{ℕ, zero, suc, ◌+◌, ◌*◌, ◌-◌, ◌≤◌, ◌<◌}
use native.Mathlib.Nat.{eq-or-lt_of_le, mul-le-mul_right}
use native.Mathlib.Numerals.{add-one, add-two}
use native.Mathlib.Omega.{arith}
use borrow.Author.Tests.{eq-eqb, ne_eqb, eqb-true}
use lib.Dec.{lit<}
use lib.ListN.{get_or}
use Rattle.board.specs.Boards.{SizedBy, Bytes}
use Rattle.board.proofs.Search.{all_of, all_at}
use Rattle.board.proofs.Tests.{and_left, and_right, and_true}
use Rattle.board.proofs.Widths.{width_le}
use Rattle.elimination.specs.Sums.{SumRules}
use Rattle.elimination.specs.Endings.{Ending, Laws, total}
use Rattle.elimination.specs.Boards.{previous_row}
use Rattle.elimination.proofs.Sums.{sums_lawful}
use Rattle.elimination.proofs.Boards.{endings_stand, rows_worth_lem}
use Rattle.rule.specs.Rule.{Allowed, next_under}
use Rattle.rule.specs.declared.Rule.{Rule}
use Rattle.life.specs.Rows.{row_of, digit_in, steps_to, RowsStepTo}
use Rattle.life.proofs.OnPlane.{place_within}
use Rattle.life.proofs.Theorems.{steps_life}
use Rattle.job_kind.specs.Kinds.{halves_of, has_target}
use Rattle.job_kind.specs.declared.Kind.{Kind}
use Rattle.third_demand.specs.Grid.{KeepsGivens, SolutionBy, TargetCells, BoardBy, held_row, score, count_by}
use Rattle.third_demand.specs.Units.{want_by, grid_rows}
use Rattle.score_table.specs.Rows.{mark_kept, row_kept, marks_of, target_row, row_for}
use Rattle.score_table.specs.ScoreTable.{absent, want_of, rules_for}
use Rattle.third_demand.specs.Theorems.{all_rows}
use Rattle.score_table.proofs.Marks.{MarkIs, is_dead, is_live, is_free, mark_is, row_worth_le}
use Rattle.score_table.proofs.Targets.{target_row_is}
use Rattle.third_demand.proofs.RowLaws.{row_none, row_past, row_digit, Place, place, score_more, score_none, count_score}
use Rattle.third_demand.proofs.HeldRows.{held_none, held_lt, row_held, previous_held, comes, solution_of}

-- what row elimination is put to
abbrev grid_rules : Kind → Rule → ℕ → ℕ → List ℕ → SumRules
grid_rules kind rule w h g = rules_for (want_by kind) (steps_to (next_under rule) w) w h g

-- all cells of a grid are within the limit, and the limit is below the number for none
within : (halves target : Bool) {w h : ℕ} → SizedBy halves w h → h * w ≤ (want_of halves target).limit
within true target {w} z = omega (arith, mul-le-mul_right w z.low, width_le true w z.width)
within false target {w} z = omega (arith, mul-le-mul_right w z.low, z.width.narrow)

absent_above : (halves target : Bool) → (want_of halves target).limit < absent
absent_above true target = lit< tt
absent_above false target = lit< tt

pub kind_laws : (kind : Kind) (rule : Rule) (w h : ℕ) (g : List ℕ) → SizedBy (halves_of kind) w h → Laws (grid_rows kind rule w h g) h
kind_laws kind rule w h g z =
    sums_lawful (grid_rules kind rule w h g) h w (record {
      each = λ k c l. row_worth_le w (marks_of (has_target kind) g) ((h - suc k) * w) (row_for (want_by kind) w c);
      within = within (halves_of kind) (has_target kind) z;
      absent_above = absent_above (halves_of kind) (has_target kind);
    })

-- ---- a mark that is kept, by the two states that a given cell may have
mark_of : (mark cell : ℕ) → (mark ≡ 1 → cell ≡ 0) → (mark ≡ 2 → cell ≡ 1) → mark_kept mark cell ≡ true
unfolding mark_kept
mark_of mark cell d l = go (mark_is mark)
  where
    go : MarkIs mark → mark_kept mark cell ≡ true
    go (is_dead e) = rw (eq-eqb mark 1 e) (eq-eqb cell 0 (d e))
    go (is_live e) = rw (ne_eqb mark 1 (omega arith), eq-eqb mark 2 e) (eq-eqb cell 1 (l e))
    go (is_free p q) = rw (ne_eqb mark 1 p, ne_eqb mark 2 q)

mark_dead : (mark cell : ℕ) → mark_kept mark cell ≡ true → mark ≡ 1 → cell ≡ 0
unfolding mark_kept
mark_dead mark cell k e = eqb-true cell 0 (rw (eq-eqb mark 1 e) at k)

mark_live : (mark cell : ℕ) → mark_kept mark cell ≡ true → mark ≡ 2 → cell ≡ 1
unfolding mark_kept
mark_live mark cell k e = eqb-true cell 1 (rw (ne_eqb mark 1 (omega arith), eq-eqb mark 2 e) at k)

-- ---- rows that step to a target's, in the order in which they are chosen
module _ (next : ℕ → ℕ) (w h : ℕ) (board target : List ℕ) where
  abbrev row : ℕ → ℕ
  row r = row_of w h board r

  abbrev over : ℕ → ℕ
  over r = previous_row (row_of w h board) r

  abbrev aim : ℕ → ℕ
  aim r = row_of w h target r

  abbrev ends_at : ℕ → Bool
  ends_at r = steps_to next w (over r) (row r) 0 (aim r) && steps_to next w (row r) 0 0 0

  record InOrder : Type 0 where
    chosen : (r : ℕ) → r < h → steps_to next w (over r) (row r) (row (suc r)) (aim r) ≡ true
    final : ends_at h ≡ true

  in_order : 0 < h → RowsStepTo next w h board target → InOrder
  in_order high A = record { chosen = chosen; final = final h refl }
    where
      chosen : (r : ℕ) → r < h → steps_to next w (over r) (row r) (row (suc r)) (aim r) ≡ true
      chosen zero l = rw (row_none w h board, row_none w h target) A.first
      chosen (suc r) l = rw (add-one r, add-two r) at (A.each r (omega arith))

      final : (i : ℕ) → i ≡ h → ends_at i ≡ true
      final zero e = absurd (omega arith)
      final (suc i) e =
          and_true (rw (add-one i, add-two i, row_past w h board (suc (suc i)) (omega arith)) at (A.each i (omega arith)))
          (subst (λ (x : ℕ). steps_to next w (row x) 0 0 0 ≡ true) (sym e) A.last)

  rows_step : 0 < h → InOrder → RowsStepTo next w h board target
  rows_step high A = record {
    first = rw (row_none w h board, row_none w h target) at (A.chosen 0 high);
    each = λ r l. rw (add-one r, add-two r) (each r l);
    last = and_right (steps_to next w (over h) (row h) 0 (aim h)) (steps_to next w (row h) 0 0 0) A.final;
  }
    where
      each : (r : ℕ) → r < h → steps_to next w (row r) (row (suc r)) (row (suc (suc r))) (aim (suc r)) ≡ true
      each r l =
          ⊎_elim
          (λ (e : suc r ≡ h).
          rw (row_past w h board (suc (suc r)) (omega arith))
          (subst (λ (x : ℕ). steps_to next w (over x) (row x) 0 (aim x) ≡ true) (sym e) (and_left (steps_to next w (over h) (row h) 0 (aim h)) (steps_to next w (row h) 0 0 0) A.final)))
          (λ (q : suc r < h). A.chosen (suc r) q) (eq-or-lt_of_le l)

-- ---- every row keeps its givens
module _ {w h : ℕ} {board : List ℕ} (b : Bytes 1 w h board) (g : List ℕ) where
  abbrev RowsKept : Type 0
  RowsKept = (r : ℕ) → r < h → row_kept w g (r * w) (row_of w h board (suc r)) ≡ true

  kept_of : KeepsGivens w h g board → RowsKept
  unfolding row_kept
  kept_of K r l =
      all_of (λ k. mark_kept (get_or g (r * w + k) 0) (digit_in w (row_of w h board (suc r)) (k + 1))) w
      (λ k q.
      let m : r * w + k < w * h = rw b.long at (place_within b l q) in
      rw (row_digit b r k l q) (mark_of (get_or g (r * w + k) 0) (get_or board (r * w + k) 0) (K.dead (r * w + k) m) (K.live (r * w + k) m)))

  keeps_at_lem : RowsKept → (p : ℕ) → Place w h p → mark_kept (get_or g p 0) (get_or board p 0) ≡ true
  unfolding row_kept
  keeps_at_lem K p q =
      rw q.is
      (rw (row_digit b q.row q.column q.inside q.narrow) at
      (all_at (λ k. mark_kept (get_or g (q.row * w + k) 0) (digit_in w (row_of w h board (suc q.row)) (k + 1))) w (K q.row q.inside) q.column q.narrow))

  keeps_of : 0 < w → RowsKept → KeepsGivens w h g board
  keeps_of wide K = record {
    dead = λ p l e. mark_dead (get_or g p 0) (get_or board p 0) (keeps_at_lem K p (place w h p wide l)) e;
    live = λ p l e. mark_live (get_or g p 0) (get_or board p 0) (keeps_at_lem K p (place w h p wide l)) e;
  }

-- ---- a board is an ending below two dead rows exactly when it is a solution
-- the row with r rows above it has h - r - 1 rows after it
rows_over : {h r : ℕ} → r < h → h - suc (h - suc r) ≡ r
rows_over l = omega arith

-- what a board has to become: the target, or itself where there is none
module _ (target : Bool) {w h : ℕ} {g : List ℕ} (T : target ≡ true → Bytes 1 w h g) (board : List ℕ) where
  goal_bytes : Bytes 1 w h board → Bytes 1 w h (cond target g board)
  goal_bytes b = go target T
    where
      go : (t : Bool) → (t ≡ true → Bytes 1 w h g) → Bytes 1 w h (cond t g board)
      go true T = T refl
      go false T = b

  goal_row : (i : ℕ) → i ≤ h → target_row target w g i (row_of w h board i) ≡ row_of w h (cond target g board) i
  goal_row i l = go target T
    where
      go : (t : Bool) → (t ≡ true → Bytes 1 w h g) → target_row t w g i (row_of w h board i) ≡ row_of w h (cond t g board) i
      go true T = target_row_is (T refl) i (row_of w h board i) l
      go false T = refl

module _ (kind : Kind) {rule : Rule} (allowed : Allowed rule) {w h : ℕ} {board : List ℕ} (B : BoardBy (halves_of kind) w h board) (g : List ℕ)
    (T : TargetCells kind w h g) where
  abbrev halves : Bool
  halves = halves_of kind

  abbrev goal : List ℕ
  goal = cond (has_target kind) g board

  abbrev marks : List ℕ
  marks = marks_of (has_target kind) g

  abbrev agreed : ℕ → Bool
  agreed r = steps_to (next_under rule) w (previous_row (row_of w h board) r) (row_of w h board r) (row_of w h board (suc r)) (row_of w h goal r)

  abbrev keeps : ℕ → Bool
  keeps r = row_kept w marks (r * w) (row_of w h board (suc r))

  -- the last row is the one with no rows after it
  last : h - 0 ≡ h
  last = omega arith

  pub solution_ends : SolutionBy kind rule w h g board → Ending (grid_rows kind rule w h g) h 0 0 (all_rows halves w h board)
  solution_ends S =
      let C = comes kind S in
      let A = in_order (next_under rule) w h board goal B.size.some_row ((steps_life rule allowed w h board goal B.bytes (goal_bytes (has_target kind) T board B.bytes)).0 C.leads) in
      (endings_stand (grid_rows kind rule w h g) h (held_row halves w h board) (held_none halves w h board)).1 (record {
        below = λ r l. held_lt halves B.bytes r l;
        each = λ r l.
            rw (rows_over l, previous_held halves B r (omega arith), row_held halves B r (omega arith), row_held halves B (suc r) l, goal_row (has_target kind) T board r (omega arith))
            (and_true (A.chosen r l) (kept_of B.bytes marks C.keeps r l));
        final = rw (last, previous_held halves B h (omega arith), row_held halves B h (omega arith), goal_row (has_target kind) T board h (omega arith)) A.final;
      })

  pub ends_solution : Ending (grid_rows kind rule w h g) h 0 0 (all_rows halves w h board) → SolutionBy kind rule w h g board
  ends_solution E =
      let S = (endings_stand (grid_rows kind rule w h g) h (held_row halves w h board) (held_none halves w h board)).0 E in
      let m : (r : ℕ) → r < h → agreed r && keeps r ≡ true =
      λ r l.
      rw (rows_over l, previous_held halves B r (omega arith), row_held halves B r (omega arith), row_held halves B (suc r) l, goal_row (has_target kind) T board r (omega arith)) at (S.each r l) in
      solution_of kind B (record {
        leads = (steps_life rule allowed w h board goal B.bytes (goal_bytes (has_target kind) T board B.bytes)).1 (rows_step (next_under rule) w h board goal B.size.some_row (record {
          chosen = λ r l. and_left (agreed r) (keeps r) (m r l);
          final = rw (last, previous_held halves B h (omega arith), row_held halves B h (omega arith), goal_row (has_target kind) T board h (omega arith)) at S.final;
        }));
        keeps = keeps_of B.bytes marks B.size.some_column (λ r l. and_right (agreed r) (keeps r) (m r l));
      })

  -- and it counts what its rows are worth
  pub total_count : count_by (has_target kind) w h g board ≡ total (grid_rows kind rule w h g) (all_rows halves w h board)
  total_count =
      count_score (has_target kind) w h g board
      ∙ rows_worth_lem (grid_rules kind rule w h g) h (held_row halves w h board) (λ r. score w r marks board)
      (λ r l. rw (rows_over l, row_held halves B (suc r) l) (score_more B.bytes marks r l)) (score_none w marks board)
