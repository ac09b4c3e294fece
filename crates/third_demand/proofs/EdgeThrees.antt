-- A grid that has an edge three has no still board that keeps the givens, under a rule with birth on 3: the dead cell outside, beside the middle one,
-- has exactly three live neighbours and is born.
-- Assumes nothing.
use mathlib.Core.Path.{◌≡◌, refl, sym, ◌∙◌}
use mathlib.Core.Bool.{Bool, true, false}
use mathlib.Core.List.{List}
use mathlib.Core.Logic.{inl, inr}
use Prim.Native.Nat.{ℕ, suc, ◌+◌, ◌*◌, ◌-◌}
use native.Mathlib.Nat.{mul_comm}
use native.Mathlib.Omega.{arith}
use borrow.Author.Tests.{eqb-true}
use lib.IntN.{ℤ, pos, suc_ℤ, pred_ℤ}
use Rattle.board.specs.Answers.{refuses, passed, Checked}
use Rattle.board.proofs.Answers.{refuses_none, checked_not, past_check}
use Rattle.board.proofs.Tests.{byte_at_lem}
use Rattle.rule.specs.Rule.{has_count, grid_check}
use Rattle.rule.specs.declared.Rule.{Rule}
use Rattle.rule.proofs.Rules.{grid_checked}
use Rattle.edges.specs.Edges.{edge_three, born_on3, edge_check}
use Rattle.edges.proofs.Edges.{GivenLive, place_inside, EdgeThree, along_row_lem, along_column_lem, edge_three_of}
use Rattle.edges.proofs.Theorems.{edge_checks_right}
use Rattle.life.specs.Plane.{Plane, on_plane, neighbours, Still}
use Rattle.life.proofs.OnPlane.{Off, before, nought, past, off_row, off_column}
use Rattle.job_kind.specs.Kinds.{halves_of, read_check}
use Rattle.job.specs.Jobs.{open_rule}
use Rattle.job_kind.specs.declared.Kind.{Kind}
use Rattle.job.specs.declared.Job.{Job}
use Rattle.service.specs.Service.{work_check, work_of}
use Rattle.job_kind.proofs.ReadChecks.{read_checked}
use Rattle.service.proofs.Calls.{work_checked, work_refused}
use Rattle.third_demand.specs.Grid.{Solution}
use Rattle.third_demand.specs.Units.{grid}
use Rattle.third_demand.specs.Theorems.{EdgeThreeHasNoBoard}
use Rattle.third_demand.proofs.CheckLaws.{lent_checked}

module _ {rule : Rule} (births : born_on3 rule ≡ true) {w h : ℕ} {g b : List ℕ} (S : Solution rule w h g b) where
  abbrev P : Plane
  P = on_plane w h b

  -- a dead cell with three live neighbours is born
  is_born : (r c : ℤ) → P r c ≡ 0 → neighbours P r c ≡ 3 → ⊥
  unfolding Still
  is_born r c dead three =
      let e : has_count rule.births 3 ≡ 0 = rw (dead, three) at (S.still r c) in
      let f : has_count rule.births 3 ≡ 1 = eqb-true _ _ births in
      omega arith

  -- a cell given live is live
  live : {r c : ℕ} → GivenLive w h g r c → P (pos r) (pos c) ≡ 1
  unfolding on_plane
  live {r} {c} s =
      byte_at_lem w h b r c s.some_row s.high s.some_column s.wide
      ∙ S.keeps.live ((r - 1) * w + (c - 1)) (rw (mul_comm w h) (place_inside w h g s)) s.mark

  -- three neighbouring cells of a row from column c on, and of a column from row r on
  abbrev in_row : ℤ → ℕ → ℕ
  in_row r c = P r (pos c) + P r (pos (suc c)) + P r (pos (suc (suc c)))

  abbrev in_column : ℤ → ℕ → ℕ
  in_column c r = P (pos r) c + P (pos (suc r)) c + P (pos (suc (suc r))) c

  -- off the board they are dead, and where they are given live there are three
  row_off : {r : ℤ} → Off h r → (c : ℕ) → in_row r c ≡ 0
  row_off o c = omega (arith, off_row w h b o (pos c), off_row w h b o (pos (suc c)), off_row w h b o (pos (suc (suc c))))

  column_off : {c : ℤ} → Off w c → (r : ℕ) → in_column c r ≡ 0
  column_off o r = omega (arith, off_column w h b o (pos r), off_column w h b o (pos (suc r)), off_column w h b o (pos (suc (suc r))))

  row_live : {r c : ℕ} → GivenLive w h g r c → GivenLive w h g r (suc c) → GivenLive w h g r (suc (suc c)) → in_row (pos r) c ≡ 3
  row_live x y z = omega (arith, live x, live y, live z)

  column_live : {r c : ℕ} → GivenLive w h g r c → GivenLive w h g (suc r) c → GivenLive w h g (suc (suc r)) c → in_column (pos c) r ≡ 3
  column_live x y z = omega (arith, live x, live y, live z)

  -- beside a row or a column off the board are three live cells on one side and none on the other: its cell in the middle is born
  row_born : {r : ℤ} → Off h r → (c : ℕ) → in_row (pred_ℤ r) c + in_row (suc_ℤ r) c ≡ 3 → ⊥
  row_born {r} o c e =
      is_born r (pos (suc c)) (off_row w h b o (pos (suc c))) (omega (arith, off_row w h b o (pos c), off_row w h b o (pos (suc (suc c)))))

  column_born : {c : ℤ} → Off w c → (r : ℕ) → in_column (pred_ℤ c) r + in_column (suc_ℤ c) r ≡ 3 → ⊥
  column_born {c} o r e =
      is_born (pos (suc r)) c (off_column w h b o (pos (suc r))) (omega (arith, off_column w h b o (pos r), off_column w h b o (pos (suc (suc r)))))

  -- above row 1 and below row h, before column 1 and after column w
  beside : {r c : ℕ} → EdgeThree w h g r c → ⊥
  beside (along_row_lem {c = c} (inl e) x y z) = row_born nought c (omega (arith, row_off (before 0) c, rw e at (row_live x y z)))
  beside (along_row_lem {c = c} (inr e) x y z) =
      row_born (past (suc h) (omega arith)) c (omega (arith, row_off (past (suc (suc h)) (omega arith)) c, rw e at (row_live x y z)))
  beside (along_column_lem {r = r} (inl e) x y z) = column_born nought r (omega (arith, column_off (before 0) r, rw e at (column_live x y z)))
  beside (along_column_lem {r = r} (inr e) x y z) =
      column_born (past (suc w) (omega arith)) r (omega (arith, column_off (past (suc (suc w)) (omega arith)) r, rw e at (column_live x y z)))

-- so a grid that has such a board passes check 14
board_passes_edges : {rule : Rule} {w h : ℕ} {g b : List ℕ} → Solution rule w h g b → edge_check rule w h g ≡ passed
board_passes_edges {rule} {w} {h} {g} {b} S = go (born_on3 rule) refl
  where
    none_here : born_on3 rule ≡ true → (r c : ℕ) (t : Bool) → edge_three w h g r c ≡ t → t ≡ false
    none_here births r c false e = refl
    none_here births r c true e = absurd (beside births S (edge_three_of w h g r c e))

    go : (t : Bool) → born_on3 rule ≡ t → edge_check rule w h g ≡ passed
    go true e = ((edge_checks_right rule w h g).passes e).1 (λ r c. none_here e r c (edge_three w h g r c) refl)
    go false e = (edge_checks_right rule w h g).other e

-- ---- the theorem
module _ (kind : Kind) {rule : Rule} {w h : ℕ} {g b : List ℕ} (S : Solution rule w h g b) where
  read_without : Checked 14 (read_check kind rule w h g)
  read_without = read_checked kind rule w h g 14 (λ e. omega arith) (λ e. omega arith) (λ e. omega arith) (rw (board_passes_edges S) refl)

  not_opened : {values : List ℕ} → open_rule kind rule w h g ≡ refuses 14 values → ⊥
  unfolding open_rule
  not_opened e =
      let p = past_check 14 (grid_check (halves_of kind) rule w h) (grid_checked rule (halves_of kind) 14 w h (λ e. omega arith) (λ e. omega arith) (λ e. omega arith)) e in
      refuses_none (sym (past_check 14 (read_check kind rule w h g) read_without p))

not_worked : (j : Job) (g t β : List ℕ) (n : ℕ) {b : List ℕ} → Solution j.rule j.width j.height g b → {values : List ℕ}
    → (work_of grid j g t β n).answer ≡ refuses 14 values → ⊥
not_worked j g t β n S e =
    checked_not 14 (work_check grid j g t β)
    (work_checked grid j g t β 14 (λ e. omega arith) (lent_checked j g t β 14 (λ e. omega arith) (λ e. omega arith) (read_without j.kind S)))
    (work_refused grid j g t β n (λ q. omega arith) e)

pub edge_three_has_no_board : EdgeThreeHasNoBoard
edge_three_has_no_board = record {
  passes = λ rule w h g b S. board_passes_edges S;
  opening = λ kind rule w h g values e b S. not_opened kind S e;
  working = λ j g t β n values e b S. not_worked j g t β n S e;
}
