-- One unit as the code does it, way by way, and a call's units: entries of a layer all at once, rows one by one.
-- Assumes nothing.
use mathlib.Core.Path.{◌≡◌, refl, sym, ◌∙◌, ap, ap₂, subst}
use mathlib.Core.Bool.{true}
use mathlib.Core.List.{List, []}
use Rattle.std.specs.Prelude.{None, Option, Some}
use Prim.Native.Nat.{ℕ, zero, suc, ◌+◌, ◌*◌, ◌-◌, ◌^◌, ◌≤◌, ◌<◌}
use native.Mathlib.Omega.{arith}
use Rattle.board.specs.Answers.{Answer, refuses}
use Rattle.board.proofs.Powers.{four_pos}
use Rattle.elimination.specs.Candidates.{Choice, nothing, chosen}
use Rattle.elimination.specs.Kind.{Kind, choose}
use Rattle.elimination.specs.Table.{reads, fill_entry, fill_entries}
use Rattle.elimination.specs.Task.{Task, fill, row, is_fill}
use Rattle.elimination.specs.Shape.{Numbers, after_entry, after_entries, after_row, after_none}
use Rattle.elimination.specs.Job.{Setup}
use Rattle.score_table.specs.Rows.{row_worth, marks_of, row_for}
use Rattle.score_table.proofs.Marks.{row_worth_le}
use Rattle.job_kind.specs.Kinds.{has_target, kind_digits, shape_of}
use Rattle.job.specs.Jobs.{above_of, last_of, mark_of, live_of, job_fits, task_due, job_with, after_unit, after_fills}
use Rattle.job.specs.declared.Job.{Job}
use Rattle.job_kind.proofs.Shapes.{shape_rounds}
use Rattle.job.proofs.Next.{fits_rows, fits_until, due_none, entries_none, entries_here, entries_more, after_run, after_row_lem, after_none_lem}
use Rattle.service.specs.Service.{next, spoiled, works_on, stage_says}
use Rattle.service.specs.Units.{here, row_step, mark_step, unit_by}
use Rattle.service.proofs.Calls.{works_none, works_next, works_still, works_spoiled}
use Rattle.board_rows.specs.Rows.{put_row}
use Rattle.third_demand.specs.Units.{State, want_by, grid_rows, setup_of, unit_of, grid}
use Rattle.third_demand.specs.Lent.{lent_state, Lent, Chooses}
use Rattle.solver.specs.Inner.{step_of, Moves}
use Rattle.elimination.proofs.Candidates.{RowBelow}
use Rattle.elimination.proofs.Kind.{choose_below}
use Rattle.elimination.proofs.Table.{fill_none, fill_more}
use Rattle.elimination.proofs.Rounds.{fill_run}
use Rattle.third_demand.proofs.UnitLaws.{unit_fits, unit_lent, row_in, lent_memory}
use Rattle.third_demand.proofs.Agreement.{picked}
use Rattle.rule.specs.Rule.{Holds, next_under, entry_of}
use Rattle.score_table.specs.Calls.{row_picked, picked_of}
use Rattle.score_table.proofs.Calls.{picked_nothing, picked_row}
use Rattle.board.specs.declared.ChosenRow.{ChosenRow}
use Rattle.board_rows.specs.Calls.{row_writes}
use Rattle.board_rows.proofs.Writing.{writes_inside}
use Rattle.score_table.proofs.EntryLaws.{row_room}
use lib.ListN.{length}

next_not_spoiled : {j : Job} {A : Type 0} → Some j ≡ None → A
next_not_spoiled e = absurd (let z : ◌≡◌ {A = ℕ} 0 1 = cc in omega arith)

moved_on : {j j' : Job} {g t β t' β' : List ℕ} → next (lent_state j' t' β') ≡ unit_of g (lent_state j t β) → Moves j g t β (Some j') t' β'
moved_on e = record { step = e; spoiled = next_not_spoiled }

-- ---- a unit, by its task
module _ (j : Job) (g t β : List ℕ) where
  abbrev w : ℕ
  w = j.width

  abbrev h : ℕ
  h = j.height

  abbrev now : State
  now = lent_state j t β

  abbrev grids : Setup ℕ (List ℕ)
  grids = setup_of j.kind j.rule w h g

  abbrev kinds : Kind ℕ
  kinds = grid_rows j.kind j.rule w h g

  unit_fill : (k source target i : ℕ) → mark_of j.stage ≡ 0 → (shape_of j.kind w h).plan j.units ≡ fill k source target i
      → unit_of g now ≡ next (lent_state (job_with j (after_entry (here j))) (fill_entry kinds k source target i t) β)
  unfolding unit_of unit_by
  unit_fill k source target i m p = ap (λ (o : Task). mark_step grids (mark_of j.stage) o now) p ∙ ap (λ (n : ℕ). mark_step grids n (fill k source target i) now) m

  unit_choose : (r source : ℕ) → mark_of j.stage ≡ 0 → (shape_of j.kind w h).plan j.units ≡ row r source
      → unit_of g now
      ≡ row_step grids r now (choose kinds (h - suc r) (above_of j.stage) (last_of j.stage) (reads kinds t source (last_of j.stage)))
  unfolding unit_of unit_by
  unit_choose r source m p = ap (λ (o : Task). mark_step grids (mark_of j.stage) o now) p ∙ ap (λ (n : ℕ). mark_step grids n (row r source) now) m

  -- an ended job stays, whatever is left of the allowance
  unit_ended : job_fits j ≡ true → task_due j ≡ None → unit_of g now ≡ next now
  unfolding unit_of unit_by
  unit_ended f e = go (mark_of j.stage) refl
    where
      go : (m : ℕ) → mark_of j.stage ≡ m → unit_of g now ≡ next now
      go zero z = absurd (due_none j f e z)
      go (suc m) z = rw z

  pub works_over : job_fits j ≡ true → task_due j ≡ None → (x : Answer) → x ≡ stage_says j.stage → (n : ℕ) → record { answer = x; state = now } ≡ works_on grid g n now
  works_over f e x q n = rw q (sym (works_still grid g n now (unit_ended f e)))

-- a row, with r rows above it
module _ (j : Job) (r source : ℕ) (g t β : List ℕ) (C : Chooses j r source g t β) where
  -- the row that a number stands for
  abbrev row_is : ℕ → ℕ
  row_is c = row_for (want_by j.kind) j.width c

  -- the marks that rows go by
  abbrev marks : List ℕ
  marks = marks_of (has_target j.kind) g

  abbrev choice : Choice ℕ
  choice =
      choose (grid_rows j.kind j.rule j.width j.height g) (j.height - suc r) (above_of j.stage) (last_of j.stage)
      (reads (grid_rows j.kind j.rule j.width j.height g) t source (last_of j.stage))

  -- the row's cells are within the board
  cells_room : suc r * j.width ≤ length β
  cells_room = omega (arith, C.lent.cells, row_room j.width j.height r (row_in C).inside)

  comes : (o : Choice ℕ) → choice ≡ o → row_step (setup_of j.kind j.rule j.width j.height g) r (lent_state j t β) o ≡ unit_of g (lent_state j t β)
  comes o f =
      sym (unit_choose j g t β r source C.running C.task ∙ ap (row_step (setup_of j.kind j.rule j.width j.height g) r (lent_state j t β)) f)

  moves_row : (c n : ℕ) → choice ≡ chosen c n → (j' : Job) → j' ≡ after_unit j (Some (record { row = c; worth = row_worth j.width marks (r * j.width) (row_is c) }))
      → Moves j g t β (Some j') t (put_row (kind_digits j.kind j.width) j.width r c β)
  moves_row c n f j' q =
      let live = live_of j.stage in
      let l : c < 2 ^ kind_digits j.kind j.width =
      subst (RowBelow (2 ^ kind_digits j.kind j.width)) f (choose_below (grid_rows j.kind j.rule j.width j.height g) (j.height - suc r) (above_of j.stage) (last_of j.stage)
      (reads (grid_rows j.kind j.rule j.width j.height g) t source (last_of j.stage))) in
      let d : j.height - suc (j.height - suc r) ≡ r = omega (arith, (row_in C).inside) in
      let same : j' ≡ job_with j (after_row j.height r c (row_worth j.width marks ((j.height - suc (j.height - suc r)) * j.width) (row_is c) + live) (here j)) =
      q ∙ after_row_lem j C.lent.taken C.running C.task c (row_worth j.width marks (r * j.width) (row_is c)) l (row_worth_le j.width marks (r * j.width) (row_is c))
      ∙ ap (λ (k : ℕ). job_with j (after_row j.height r c (row_worth j.width marks (k * j.width) (row_is c) + live) (here j))) (sym d) in
      moved_on (ap (λ (i : Job). next (lent_state i t (put_row (kind_digits j.kind j.width) j.width r c β))) same ∙ comes (chosen c n) f)

  moves_none : r ≡ 0 → choice ≡ nothing → (j' : Job) → j' ≡ after_unit j None → Moves j g t β (Some j') t β
  moves_none z f j' q =
      let p : (shape_of j.kind j.width j.height).plan j.units ≡ row 0 source = C.task ∙ ap (λ (k : ℕ). row k source) z in
      moved_on (rw (q, after_none_lem j C.lent.taken C.running p) (go r z ∙ comes nothing f))
    where
      go : (k : ℕ) → k ≡ 0
          → next (lent_state (job_with j (after_none (here j))) t β) ≡ row_step (setup_of j.kind j.rule j.width j.height g) k (lent_state j t β) nothing
      go zero p = refl
      go (suc k) p = absurd (omega arith)

  moves_spoiled : (r ≡ 0 → ⊥) → choice ≡ nothing → Moves j g t β None t β
  moves_spoiled n f = record { step = go r n ∙ comes nothing f; spoiled = λ x. (refl, refl) }
    where
      go : (k : ℕ) → (k ≡ 0 → ⊥) → spoiled ≡ row_step (setup_of j.kind j.rule j.width j.height g) k (lent_state j t β) nothing
      go zero p = absurd (p refl)
      go (suc k) p = refl

  -- ---- the same, by what `choose_row` answers
  module _ {o : Option ChosenRow} (table : List ℕ) (H : Holds (next_under j.rule) table)
      (picks : o ≡ picked_of (want_by j.kind) j.width g r (row_picked (want_by j.kind) (entry_of table) j.width j.height r source (above_of j.stage) (last_of j.stage) g t)) where
    told : o ≡ picked_of (want_by j.kind) j.width g r choice
    told =
        let F = fits_rows j C.lent.taken in
        let R = row_in C in
        picks ∙ ap (picked_of (want_by j.kind) j.width g r) (picked _ _ H j.kind _ _ _ _ (lent_memory C.lent) _ _ _ _ R.inside R.layer F.0 F.1)

    pub spoils : o ≡ None → (r ≡ 0 → ⊥) → Moves j g t β None t β
    spoils e n = moves_spoiled n (picked_nothing (want_by j.kind) j.width g r choice (sym e ∙ told))

    pub ends_by_none : o ≡ None → r ≡ 0 → (j' : Job) → j' ≡ after_unit j o → Moves j g t β (Some j') t β
    ends_by_none e z j' q = moves_none z (picked_nothing (want_by j.kind) j.width g r choice (sym e ∙ told)) j' (q ∙ ap (after_unit j) e)

    pub goes_on_by_row : (c : ChosenRow) → o ≡ Some c → (j' : Job) → j' ≡ after_unit j (Some c)
        → (β' : List ℕ) → β' ≡ row_writes (kind_digits j.kind j.width) j.width r c.row β → Moves j g t β (Some j') t β'
    goes_on_by_row c e j' q β' b =
        let P = picked_row (want_by j.kind) j.width g r choice c (sym e ∙ told) in
        let same : c ≡ record { row = c.row; worth = row_worth j.width marks (r * j.width) (row_is c.row) } = rw (← P.worth) refl in
        rw (b ∙ writes_inside _ _ _ _ _ cells_room) (moves_row c.row P.sum P.is j' (q ∙ ap (λ (x : ChosenRow). after_unit j (Some x)) same))

-- ---- a call's units
-- where a call goes on from a later state: what is left comes to the same, and the checks would still pass
pub record Onward (g : List ℕ) (j : Job) (t β : List ℕ) (n : ℕ) (j' : Job) (t' β' : List ℕ) (n' : ℕ) : Type 0 where
  pub works : works_on grid g n' (lent_state j' t' β') ≡ works_on grid g n (lent_state j t β)
  pub lent : Lent j' g t' β'
  pub rule : j'.rule ≡ j.rule

-- after entries of a layer, one a unit
module _ (j : Job) (g t β : List ℕ) (L : Lent j g t β) (m : mark_of j.stage ≡ 0) (k source target i : ℕ)
    (p : (shape_of j.kind j.width j.height).plan j.units ≡ fill k source target i) where
  abbrev K : Kind ℕ
  K = grid_rows j.kind j.rule j.width j.height g

  -- the state after c of them
  abbrev ran : ℕ → State
  ran c = lent_state (job_with j (after_entries c (here j))) (fill_entries K k source target i c t) β

  ran_none : ran 0 ≡ lent_state j t β
  ran_none = ap₂ (λ (x : Job) (y : List ℕ). lent_state x y β) (entries_none j L.taken m) (fill_none K k source target i t)

  fills : (c : ℕ) → i + c < 4 ^ kind_digits j.kind j.width → (shape_of j.kind j.width j.height).plan (j.units + c) ≡ fill k source target (i + c)
  fills c l = (fill_run (shape_rounds j.width j.height j.kind) (four_pos (kind_digits j.kind j.width)) (fits_until j L.taken m) p c l).0

  ran_more : (c : ℕ) → i + c < 4 ^ kind_digits j.kind j.width → unit_of g (ran c) ≡ next (ran (suc c))
  ran_more c l =
      unit_fill (ran c).job g (ran c).table β k source target (i + c) (ap (λ (x : Numbers). x.mark) (entries_here j c)) (fills c l)
      ∙ ap₂ (λ (x : Job) (y : List ℕ). next (lent_state x y β)) (entries_more j c) (sym (fill_more K k source target i t c))

  lent_ran : (c : ℕ) → i + c ≤ 4 ^ kind_digits j.kind j.width → Lent (ran c).job g (ran c).table β
  lent_ran zero l = subst (λ (s : State). Lent s.job g s.table s.board) (sym ran_none) L
  lent_ran (suc c) l = unit_lent g (ran c) (ran (suc c)) (lent_ran c (omega arith)) (ran_more c (omega arith))

  works_ran : (c : ℕ) → i + c ≤ 4 ^ kind_digits j.kind j.width → (n : ℕ) → c ≤ n → works_on grid g (n - c) (ran c) ≡ works_on grid g n (lent_state j t β)
  works_ran zero l n b = ap₂ (λ (x : ℕ) (s : State). works_on grid g x s) (let e : n - 0 ≡ n = omega arith in e) ran_none
  works_ran (suc c) l n b =
      let e : suc (n - suc c) ≡ n - c = omega arith in
      sym (works_next grid g (n - suc c) (ran c) (ran (suc c)) (ran_more c (omega arith)))
      ∙ ap (λ (x : ℕ). works_on grid g x (ran c)) e
      ∙ works_ran c (omega arith) n (omega arith)

  pub onward_filled : (c : ℕ) → i + c ≤ 4 ^ kind_digits j.kind j.width → (j' : Job) → j' ≡ after_fills c j → (t' : List ℕ) → t' ≡ fill_entries K k source target i c t → (n : ℕ) → c ≤ n
      → Onward g j t β n j' t' β (n - c)
  onward_filled c l j' q t' e n b =
      let d : j' ≡ job_with j (after_entries c (here j)) = q ∙ after_run j L.taken m c (λ x y. ap is_fill (fills x (omega arith))) in
      rw (d, e) record { works = works_ran c l n b; lent = lent_ran c l; rule = refl }

module _ (g : List ℕ) where
  -- after a row, and where none can be chosen
  module _ (j : Job) (t β : List ℕ) (r : Option Job) (t' β' : List ℕ) (M : Moves j g t β r t' β') where
    pub onward_moved : (j' : Job) → r ≡ Some j' → Lent j g t β → (n : ℕ) → (n ≡ 0 → ⊥) → Onward g j t β n j' t' β' (n - 1)
    onward_moved j' e L n l =
        let k : n ≡ suc (n - 1) = omega (arith, l) in
        let s = lent_state j t β in
        let s' = lent_state j' t' β' in
        let u : unit_of g s ≡ next s' = sym (subst (λ (o : Option Job). step_of j o t' β' ≡ unit_of g s) e M.step) in record {
          works = sym (ap (λ (x : ℕ). works_on grid g x s) k ∙ works_next grid g (n - 1) s s' u);
          lent = unit_lent g s s' L u;
          rule = (unit_fits g s s' L.taken u).rule;
        }

    pub works_turned : r ≡ None → (n : ℕ) → (n ≡ 0 → ⊥) → record { answer = refuses 9 []; state = lent_state j t' β' } ≡ works_on grid g n (lent_state j t β)
    works_turned e zero l = absurd (l refl)
    works_turned e (suc n) l =
        let x = M.spoiled e in
        rw (x.0, x.1) (sym (works_spoiled grid g n (lent_state j t β) (sym (subst (λ (o : Option Job). step_of j o t' β' ≡ unit_of g (lent_state j t β)) e M.step))))

  -- the end of a call
  pub works_spent : (j : Job) (t β : List ℕ) (x : Answer) → x ≡ stage_says j.stage → (n : ℕ) → n ≡ 0 → record { answer = x; state = lent_state j t β } ≡ works_on grid g n (lent_state j t β)
  works_spent j t β x e n z = rw (z, e) (sym (works_none grid g (lent_state j t β)))
