-- What is done by now, in the terms of a grid's table and board, from what the units of any plan leave.
-- Assumes nothing.
use mathlib.Core.Path.{◌≡◌, refl, sym, ◌∙◌, ap, ap₂, subst}
use mathlib.Core.Bool.{Bool, true, false, cond}
use mathlib.Core.List.{List}
use Prim.Native.Nat.{ℕ, zero, suc, ◌+◌, ◌*◌, ◌-◌, ◌/◌, ◌%◌, ◌^◌, ◌≤◌, ◌<◌}
use native.Mathlib.Omega.{arith}
use borrow.Author.Tests.{ne_eqb}
use lib.Dec.{eqb}
use Rattle.board.specs.Checks.{table_size}
use Rattle.elimination.specs.Task.{Task, fill, row}
use Rattle.elimination.specs.Table.{right_at}
use Rattle.elimination.specs.FillThenChoose as Whole
use Rattle.elimination.specs.TwoLayers as Two
use Rattle.elimination.specs.Job.{Setup}
use Rattle.elimination.specs.Places as Places
use Rattle.elimination.specs.Shape.{rows_chosen, entries_filled}
use Rattle.elimination.specs.Progress.{Written, row_at, worth_so_far, Carried}
use Rattle.elimination.proofs.Shape.{Units, runs, ends, fails}
use Rattle.elimination.proofs.FillThenChoose.{stands, writes_not}
use Rattle.elimination.proofs.Table.{right_at_entry}
use Rattle.elimination.proofs.Progress.{worth_none, worth_more}
use Rattle.rule.specs.declared.Rule.{Rule}
use Rattle.life.specs.Rows.{row_of}
use Rattle.score_table.specs.Rows.{row_worth, marks_of}
use Rattle.service.specs.JobKinds.{rows_in}
use Rattle.job_kind.specs.Kinds.{halves_of, has_target, kind_digits, board_length, plan_of, chosen_in, shape_of}
use Rattle.job.specs.Jobs.{above_of, last_of, live_of, mark_of, numbers_of, job_fits}
use Rattle.job_kind.specs.declared.Kind.{Kind}
use Rattle.job_kind.proofs.Shapes.{shape_rounds, shape_orderly, shorter, chosen_once, rows_are_choosing_units}
use Rattle.job.proofs.Fits.{Frame, numbers_at, fits_numbers}
use Rattle.board.proofs.Powers.{four_two, table_four}
use Rattle.score_table.specs.ScoreTable.{two_layer_place, InPlace}
use Rattle.score_table.proofs.Places.{place_same, two_layers_right}
use Rattle.third_demand.specs.Grid.{BoardBy, held_row, score, count_by, OptimalBy}
use Rattle.third_demand.specs.Units.{State, grid_rows, setup_of}
use Rattle.third_demand.specs.Demand.{right_unit, FilledTo, TwoLayersTo, TableAfter, Progress, Of, grid_kind}
use Rattle.third_demand.proofs.RowLaws.{score_more, score_none, count_score}
use Rattle.third_demand.proofs.HeldRows.{held_none, held_reads, stands_for, row_held, solution_board}
use Rattle.board_rows.specs.Rows.{read_row}

-- at most as many units are done as a job with a board has
units_few : (jobKind : Kind) (w h u m : ℕ) → 0 < h → Units (shape_of jobKind w h) u m → u ≤ board_length jobKind w h
units_few jobKind w h u m high (runs l) = omega arith
units_few jobKind w h u m high (ends e) = omega arith
units_few jobKind w h u m high (fails e) = omega (arith, shorter jobKind w h high)

-- the units done are the entries written and the rows chosen
units_are : (jobKind : Kind) (w h u m : ℕ) → 0 < h → Units (shape_of jobKind w h) u m
    → u ≡ entries_filled (plan_of jobKind w h) u + rows_chosen (shape_of jobKind w h) u m + cond (eqb m 2) 1 0
unfolding rows_chosen
units_are jobKind w h u m high U = go m U (rows_are_choosing_units jobKind w h u high (units_few jobKind w h u m high U))
  where
    go : (m : ℕ) → Units (shape_of jobKind w h) u m → u ≡ entries_filled (plan_of jobKind w h) u + chosen_in jobKind w h u
        → u ≡ entries_filled (plan_of jobKind w h) u + cond (eqb m 2) 0 (chosen_in jobKind w h u) + cond (eqb m 2) 1 0
    go m (runs l) s = omega (arith, s)
    go m (ends e) s = omega (arith, s)
    go m (fails e) s = omega (arith, s, ap (chosen_in jobKind w h) e, chosen_once jobKind w h high)

-- the table: its right numbers are row elimination's, where a row's number has d binary digits
module _ (jobKind : Kind) (rule : Rule) (w h : ℕ) (g : List ℕ) where
  abbrev d : ℕ
  d = kind_digits jobKind w

  right_same : (u : ℕ) → right_unit jobKind rule w h g u ≡ right_at (grid_rows jobKind rule w h g) (u / (2 ^ d * 2 ^ d)) (u % (2 ^ d * 2 ^ d))
  unfolding right_unit
  right_same u = rw (four_two d) (sym (right_at_entry (grid_rows jobKind rule w h g) (u / (2 ^ d * 2 ^ d)) (u % (2 ^ d * 2 ^ d))))

  table_filled : (m n : ℕ) → m ≡ n + (m - table_size d h) → (t₀ t : List ℕ)
      → Places.Filled (grid_rows jobKind rule w h g) (Whole.plan h (2 ^ d * 2 ^ d)) m t₀ t → FilledTo jobKind rule w h g n t₀ t
  table_filled m n split t₀ t F = record {
    size = F.size;
    right = λ u l.
        let b : u < h * (2 ^ d * 2 ^ d) = omega (arith, split, table_four d h) in
        let S = stands h (2 ^ d * 2 ^ d) u m b (omega (arith, split)) in
        rw (place_same d h u, right_same u) (F.right _ _ _ S);
    rest = λ p f. F.rest p (λ v l. writes_not h (2 ^ d * 2 ^ d) v p (λ b e. f v (omega (arith, split, table_four d h)) (e ∙ sym (place_same d h v))));
  }

-- no unit writes past the two halves
writes_past : (w h v p : ℕ) → v < board_length Kind.TwoLayers w h → 2 * 4 ^ w ≤ p → Places.writes (plan_of Kind.TwoLayers w h v) p ≡ false
unfolding table_size
writes_past w h v p l b = go (plan_of Kind.TwoLayers w h v) refl
  where
    go : (o : Task) → plan_of Kind.TwoLayers w h v ≡ o → Places.writes o p ≡ false
    go (fill k source target j) e = ne_eqb p (target + j) (λ q. omega (arith, q, (shape_orderly w h Kind.TwoLayers).inside v k source target j l e))
    go (row r source) e = refl

-- what a unit fills lies in its layer's half
stands_half : (w h v k source target j : ℕ) → v < board_length Kind.TwoLayers w h → plan_of Kind.TwoLayers w h v ≡ fill k source target j
    → target + j ≡ two_layer_place w (h - k) (j / 2 ^ w) (j % 2 ^ w)
stands_half w h v k source target j l e =
    let long : Two.start_of h (2 ^ w * 2 ^ w) h ≡ board_length Kind.TwoLayers w h =
    ap (λ (q : ℕ). Two.start_of h q h) (sym (four_two w)) ∙ (shape_rounds w h Kind.TwoLayers).board in
    (subst (InPlace (two_layer_place w) w h) e (two_layers_right w h v (rw long l))).0

two_layers_filled : (rule : Rule) (w h : ℕ) (g : List ℕ) (m : ℕ) → m ≤ board_length Kind.TwoLayers w h → (t₀ t : List ℕ)
    → Places.Filled (grid_rows Kind.TwoLayers rule w h g) (plan_of Kind.TwoLayers w h) m t₀ t → TwoLayersTo rule w h g m t₀ t
two_layers_filled rule w h g m few t₀ t F = record {
  size = F.size;
  stands = λ p k j S. S.place ∙ stands_half w h S.unit k S.source S.target j (omega (arith, S.before)) S.fills;
  right = λ p k j S. F.right p k j S ∙ right_at_entry (grid_rows Kind.TwoLayers rule w h g) k j;
  rest = F.rest;
  past = λ p b. F.rest p (λ v l. writes_past w h v p (omega arith) b);
}

-- by the kind
table_after : (jobKind : Kind) (rule : Rule) (w h : ℕ) (g : List ℕ) (m : ℕ) → 0 < h → m ≤ board_length jobKind w h → (t₀ t : List ℕ)
    → Places.Filled (grid_rows jobKind rule w h g) (plan_of jobKind w h) m t₀ t → TableAfter jobKind rule w h g m t₀ t
table_after Kind.Ordinary rule w h g m high few t₀ t F =
    table_filled Kind.Ordinary rule w h g m (entries_filled (plan_of Kind.Ordinary w h) m) (rows_are_choosing_units Kind.Ordinary w h m high few) t₀ t F
table_after Kind.TwoLayers rule w h g m high few t₀ t F = two_layers_filled rule w h g m few t₀ t F
table_after Kind.Mirror rule w h g m high few t₀ t F =
    table_filled Kind.Mirror rule w h g m (entries_filled (plan_of Kind.Mirror w h) m) (rows_are_choosing_units Kind.Mirror w h m high few) t₀ t F
table_after Kind.Predecessor rule w h g m high few t₀ t F =
    table_filled Kind.Predecessor rule w h g m (entries_filled (plan_of Kind.Predecessor w h) m) (rows_are_choosing_units Kind.Predecessor w h m high few) t₀ t F

module _ (jobKind : Kind) {rule : Rule} {w h : ℕ} (z : Frame jobKind rule w h) (g : List ℕ) where
  abbrev halves : Bool
  halves = halves_of jobKind

  abbrev reads : ℕ → List ℕ → ℕ
  reads = read_row (kind_digits jobKind w) w

  abbrev setup : Setup ℕ (List ℕ)
  setup = setup_of jobKind rule w h g

  -- row i, counted from 1
  row_same : (wanted : List ℕ) (i : ℕ) → i ≤ h → row_at reads wanted i ≡ held_row halves w h wanted i
  row_same wanted zero l = sym (held_none halves w h wanted)
  row_same wanted (suc r) l = sym (held_reads halves w h r wanted l)

  abbrev marks : List ℕ
  marks = marks_of (has_target jobKind) g

  -- what the first k rows of a board are worth is their score
  worth_score : {wanted : List ℕ} → BoardBy halves w h wanted → (k : ℕ) → k ≤ h → worth_so_far setup reads wanted k ≡ score w k marks wanted
  worth_score {wanted} B zero l = worth_none setup reads wanted ∙ sym (score_none w marks wanted)
  worth_score {wanted} B (suc r) l =
      let e : h - suc (h - suc r) ≡ r = omega arith in
      let c : stands_for halves w (reads r wanted) ≡ row_of w h wanted (suc r) = ap (stands_for halves w) (row_same wanted (suc r) l) ∙ row_held halves B (suc r) l in
      let m : row_worth w marks ((h - suc (h - suc r)) * w) (stands_for halves w (reads r wanted)) ≡ row_worth w marks (r * w) (row_of w h wanted (suc r)) =
      ap₂ (λ (x y : ℕ). row_worth w marks (x * w) y) e c in
      worth_more setup reads wanted r ∙ omega (arith, m, worth_score B r (omega arith), score_more B.bytes marks r l)

  carried_count : (wanted : List ℕ) (k x : ℕ) → (0 < k → OptimalBy jobKind rule w h g wanted) → k ≤ h → x ≡ worth_so_far setup reads wanted k
      → x ≡ count_by (has_target jobKind) w k g wanted
  carried_count wanted k x o l e = e ∙ go k o l ∙ sym (count_score (has_target jobKind) w k g wanted)
    where
      go : (k : ℕ) → (0 < k → OptimalBy jobKind rule w h g wanted) → k ≤ h → worth_so_far setup reads wanted k ≡ score w k marks wanted
      go zero o l = worth_none setup reads wanted ∙ sym (score_none w marks wanted)
      go (suc k) o l = worth_score (solution_board jobKind rule g wanted z.size (o (omega arith)).solution) (suc k) l

  pub progress : (wanted : List ℕ) (before now : State) → Of jobKind rule w h now.job → job_fits now.job ≡ true
      → (0 < rows_in (grid_kind jobKind rule w h g) now.job → OptimalBy jobKind rule w h g wanted)
      → Places.Filled (grid_rows jobKind rule w h g) (plan_of jobKind w h) now.job.units before.table now.table
      → Written w (rows_in (grid_kind jobKind rule w h g) now.job) wanted before.board now.board
      → Carried setup reads (rows_in (grid_kind jobKind rule w h g) now.job) wanted (above_of now.job.stage) (last_of now.job.stage) (live_of now.job.stage)
      → Progress jobKind rule w h g wanted before now
  progress wanted before now O f o F E C =
      let j = now.job in
      let s = j.stage in
      let k = rows_in (grid_kind jobKind rule w h g) j in
      let high = z.size.some_row in
      let U : Units (shape_of jobKind w h) j.units (mark_of s) = rw (O.kept, O.wide, O.tall) at (numbers_at j.kind (numbers_of j) (fits_numbers j f)).are.units in record {
        of = O;
        units = units_are jobKind w h j.units (mark_of s) high U;
        filled = table_after jobKind rule w h g j.units high (units_few jobKind w h j.units (mark_of s) high U) before.table now.table F;
        written = E;
        above = C.above ∙ row_same wanted (k - 1) (omega (arith, C.few));
        last = C.last ∙ row_same wanted k C.few;
        live = carried_count wanted k (live_of s) o C.few C.so_far;
      }
