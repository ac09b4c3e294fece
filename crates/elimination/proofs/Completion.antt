-- A job with a sound plan comes to its end: row by row, the plan fills until the row's layer is right, and the row then chosen is the right one.
-- Assumes nothing.
use mathlib.Core.Path.{◌≡◌, refl, sym, ◌∙◌, ap, subst}
use mathlib.Core.Bool.{true, cond}
use mathlib.Core.List.{List, [], ◌∷◌}
use Prim.Native.Nat.{ℕ, zero, suc, ◌+◌, ◌-◌, ◌<◌}
use native.Mathlib.Nat.{add-suc, add-zero, zero-add}
use native.Mathlib.Omega.{arith}
use borrow.Author.Tests.{lt-ltb, le-ltb}
use lib.Dec.{ltb}
use lib.ListN.{length}
use Rattle.elimination.specs.Candidates.{Choice, nothing, chosen}
use Rattle.elimination.specs.Kind.{Kind, rows_of, choose, right_entry, right_rows}
use Rattle.elimination.specs.Endings.{Ending, NoEnding, total, Solved, no_ending, an_ending, Laws}
use Rattle.elimination.specs.Task.{after_tasks}
use Rattle.elimination.specs.Machine.{ComesTo}
use Rattle.elimination.specs.Job.{running, finished, State, Setup, ended, opened, take_row, unit, machine}
use Rattle.elimination.specs.Plan.{Schedule, after_filling, SoundPlan}
use Rattle.elimination.specs.Completion.{row_above, row_last, add_rows, write_rows, after_rows, board_rows, board_worth, none_end, Completion, to_board, to_none, JobCompletes}
use Rattle.elimination.proofs.Endings.{ending_length, elimination_solves}
use Rattle.elimination.proofs.Table.{choose_right}
use Rattle.elimination.proofs.Machine.{Runs, here, runs_come, runs_more, runs_add}
use Rattle.elimination.proofs.Job.{unit_ended, unit_running, act_fill, unit_row}

-- rows counted from the first on are worth their total
module _ {X : Type 0} (G : Kind X) {h : ℕ} (L : Laws G h) where
  add_rows_add : (cs : List ℕ) (k c : ℕ) (x : X) → add_rows G cs (G.add k c x) ≡ G.add k c (add_rows G cs x)
  unfolding add_rows
  add_rows_add [] k c x = refl
  add_rows_add (d ∷ ds) k c x = ap (add_rows G ds) (L.add_swap (length ds) d k c x) ∙ add_rows_add ds k c (G.add (length ds) d x)

  pub add_rows_total : (cs : List ℕ) → add_rows G cs G.start ≡ total G cs
  unfolding add_rows total
  add_rows_total [] = refl
  add_rows_total (c ∷ cs) = add_rows_add cs (length cs) c G.start ∙ ap (G.add (length cs) c) (add_rows_total cs)

  -- where there is no board, there is no first row
  no_first_row : (k : ℕ) → suc k ≡ h → NoEnding G h 0 0 → choose G k 0 0 (right_entry G k 0) ≡ nothing
  unfolding right_rows
  no_first_row k e f = go (elimination_solves G h L (suc k) 0 0 (omega arith))
    where
      no_choice : (o : Choice X) → rows_of o (right_rows G k 0) ≡ [] → o ≡ nothing
      no_choice nothing p = refl
      no_choice (chosen c v) p = cc

      go : Solved G (suc k) 0 0 (right_entry G (suc k) 0 0) (right_rows G (suc k) 0 0) → choose G k 0 0 (right_entry G k 0) ≡ nothing
      go (no_ending f' p q) = no_choice (choose G k 0 0 (right_entry G k 0)) q
      go (an_ending T) = absurd (f (right_rows G (suc k) 0 0) (subst (λ (m : ℕ). Ending G m 0 0 (right_rows G (suc k) 0 0)) e T.lawful))

module _ {X B : Type 0} (J : Setup X B) (S : Schedule) (P : SoundPlan J.kind J.height J.plan S) where
  abbrev G : Kind X
  G = J.kind

  abbrev h : ℕ
  h = J.height

  -- the units that k more rows take, from row r on
  unfoldable span : ℕ → ℕ → ℕ
  span zero r = 0
  span (suc k) r = S.work r + suc (span k (suc r))

  span_start : (k r : ℕ) → S.start r + span k r ≡ S.start (r + k)
  unfolding span
  span_start zero r = add-zero (S.start r) ∙ sym (ap S.start (add-zero r))
  span_start (suc k) r =
      let e : suc r + k ≡ r + suc k = omega arith in
      let f : S.start (suc r + k) ≡ S.start (r + suc k) = ap S.start e in
      omega (arith, P.scheduled.next r, span_start k (suc r))

  -- before the filling for row r; and after m units of it
  abbrev at_row : ℕ → ℕ → ℕ → X → List X → B → State X B
  at_row r a b x t β = record { units = S.start r; above = a; last = b; so_far = x; mark = cond (ltb r h) running finished; table = t; board = β }

  abbrev in_fill : ℕ → ℕ → ℕ → ℕ → X → List X → B → State X B
  in_fill m r a b x t β =
      record { units = S.start r + m; above = a; last = b; so_far = x; mark = running; table = after_tasks G J.plan (S.start r) m t; board = β }

  module _ (r : ℕ) (hr : r < h) (a b : ℕ) (x : X) (t : List X) (β : B) where
    fill_step : (m : ℕ) → m < S.work r → unit J (in_fill m r a b x t β) ≡ in_fill (suc m) r a b x t β
    unfolding after_tasks
    fill_step m l = unit_running J (in_fill m r a b x t β) refl ∙ act_fill J (J.plan (S.start r + m)) (P.scheduled.fills r m hr l) (in_fill m r a b x t β) ∙ rw add-suc

    fill_run : (p m : ℕ) → m + p ≡ S.work r → Runs (machine J) (in_fill (S.work r) r a b x t β) (in_fill m r a b x t β) p
    fill_run zero m e = subst (λ (v : ℕ). Runs (machine J) (in_fill (S.work r) r a b x t β) (in_fill v r a b x t β) 0) (omega arith) here
    fill_run (suc p) m e =
        runs_more (machine J) (in_fill m r a b x t β) (fill_step m (omega arith)) refl (omega arith) (fill_run p (suc m) (omega arith))

    -- all the filling for row r
    row_fill_run : Runs (machine J) (in_fill (S.work r) r a b x t β) (at_row r a b x t β) (S.work r)
    unfolding after_tasks
    row_fill_run = rw (lt-ltb r h hr) (rw (add-zero (S.start r)) at (fill_run (S.work r) 0 (omega arith)))

    -- the unit that chooses row r, over its right layer
    choose_step : P.Ready r t → b < G.codes
        → unit J (in_fill (S.work r) r a b x t β) ≡ take_row J r (in_fill (S.work r) r a b x t β) (choose G (h - suc r) a b (right_entry G (h - suc r) b))
    choose_step y hb =
        unit_row J (in_fill (S.work r) r a b x t β) r (S.source r) refl (P.scheduled.chooses r hr)
        ∙ ap (take_row J r (in_fill (S.work r) r a b x t β)) (choose_right G (after_filling G J.plan S r t) (S.source r) (h - suc r) (P.right r t hr y) a b hb)

    row_step_lem : (k c : ℕ) (v : X) → r + suc k ≡ h → P.Ready r t → b < G.codes → choose G k a b (right_entry G k b) ≡ chosen c v
        → unit J (in_fill (S.work r) r a b x t β) ≡ at_row (suc r) b c (G.add k c x) (after_filling G J.plan S r t) (J.write r c β)
    row_step_lem k c v e y hb p =
        let ek : h - suc r ≡ k = omega arith in
        let q : choose G (h - suc r) a b (right_entry G (h - suc r) b) ≡ chosen c v = rw ek p in
        choose_step y hb ∙ rw (q, ek, P.scheduled.next r)

  -- the end of a job that chooses the k rows cs from row r on
  abbrev rows_end : ℕ → List ℕ → ℕ → ℕ → ℕ → X → List X → B → State X B
  rows_end k cs r a b x t β = record {
    units = S.start h;
    above = row_above a b cs;
    last = row_last b cs;
    so_far = add_rows G cs x;
    mark = finished;
    table = after_rows G J.plan S k r t;
    board = write_rows J.write r cs β;
  }

  abbrev RowsRun : ℕ → List ℕ → ℕ → ℕ → ℕ → X → List X → B → Type 0
  RowsRun k cs r a b x t β = Runs (machine J) (rows_end k cs r a b x t β) (at_row r a b x t β) (span k r)

  abbrev RowsRuns : ℕ → ℕ → ℕ → Type 0
  RowsRuns k r a = (b : ℕ) (x : X) (t : List X) (β : B) → r + k ≡ h → P.Ready r t → b < G.codes → Ending G k a b (right_rows G k a b)
      → RowsRun k (right_rows G k a b) r a b x t β

  -- where the right rows are an ending, the job chooses them, writes them and is finished
  rows_run : (k r a : ℕ) → RowsRuns k r a
  unfolding right_rows add_rows write_rows after_rows span row_above row_last
  rows_run zero r a b x t β e y hb l = let er : r ≡ h = omega arith in rw (le-ltb r h (omega arith)) (rw er here)
  rows_run (suc k) r a b x t β e y hb l = go (choose G k a b (right_entry G k b)) refl l (rows_run k (suc r) b)
    where
      t' : List X
      t' = after_filling G J.plan S r t

      go : (o : Choice X) → choose G k a b (right_entry G k b) ≡ o → Ending G (suc k) a b (rows_of o (right_rows G k b))
          → RowsRuns k (suc r) b → RowsRun (suc k) (rows_of o (right_rows G k b)) r a b x t β
      go nothing p l ih = absurd l
      go (chosen c v) p l ih =
          let len = ending_length G k b c (right_rows G k b c) l.2 in
          let hr : r < h = omega arith in
          runs_add (machine J) (row_fill_run r hr a b x t β)
          (runs_more (machine J) (in_fill (S.work r) r a b x t β)
          (row_step_lem r hr a b x t β k c v e y hb p ∙ ap (λ (j : ℕ). at_row (suc r) b c (G.add j c x) t' (J.write r c β)) (sym len))
          refl
          (P.scheduled.next r)
          (ih c (G.add (length (right_rows G k b c)) c x) t' (J.write r c β) (omega arith) (P.again r t hr y) l.0 l.2))

  -- where there is no first row, the job ends with none
  none_run : (k : ℕ) (t : List X) (β : B) → suc k ≡ h → P.Ready 0 t → 0 < G.codes → choose G k 0 0 (right_entry G k 0) ≡ nothing
      → Runs (machine J) (none_end J S t β) (at_row 0 0 0 G.start t β) (suc (S.work 0))
  none_run k t β e y hb p =
      let hr : 0 < h = omega arith in
      let ek : h - suc 0 ≡ k = omega arith in
      let q : choose G (h - suc 0) 0 0 (right_entry G (h - suc 0) 0) ≡ nothing = rw ek p in
      subst (λ (m : ℕ). Runs (machine J) (none_end J S t β) (at_row 0 0 0 G.start t β) m) (omega arith)
      (runs_add (machine J) (row_fill_run 0 hr 0 0 G.start t β)
      (runs_more (machine J) (in_fill (S.work 0) 0 0 0 G.start t β) (choose_step 0 hr 0 0 G.start t β y hb ∙ rw (q, P.scheduled.first, zero-add)) refl (omega (arith, P.scheduled.first)) here))

  module _ (L : Laws G h) (high : 0 < h) (wide : 0 < G.codes) (t : List X) (ready : P.Ready 0 t) (β : B) where
    start_opened : at_row 0 0 0 G.start t β ≡ opened G t β
    start_opened = rw (P.scheduled.first, lt-ltb 0 h high)

    span_all : span h 0 ≡ S.start h
    span_all =
        let e : 0 + h ≡ h = omega arith in
        let f : S.start (0 + h) ≡ S.start h = ap S.start e in
        omega (arith, P.scheduled.first, span_start h 0)

    -- a run to an ended state comes to it
    comes_to : {s' : State X B} {m : ℕ} → Runs (machine J) s' (at_row 0 0 0 G.start t β) m → ended s' ≡ true → ComesTo (machine J) (opened G t β) s' m
    comes_to {s'} r e = rw start_opened at (runs_come (machine J) r P.scheduled.first e (unit_ended J s' e))

    completes : Completion J S t β
    completes = go (elimination_solves G h L h 0 0 (omega arith))
      where
        go : Solved G h 0 0 (board_worth J) (board_rows J) → Completion J S t β
        go (no_ending f p q) =
            let e : suc (h - 1) ≡ h = omega arith in
            to_none f (comes_to (none_run (h - 1) t β e ready wide (no_first_row G L (h - 1) e f)) refl)
        go (an_ending T) =
            to_board T (comes_to (rw (← (add_rows_total G L (board_rows J))) (rw span_all at (rows_run h 0 0 0 G.start t β (omega arith) ready wide T.lawful))) refl)

-- THE THEOREM of a job
pub job_completes : {X B : Type 0} (J : Setup X B) (S : Schedule) → JobCompletes J S
job_completes J S L high wide P t ready β = completes J S P L high wide t ready β
