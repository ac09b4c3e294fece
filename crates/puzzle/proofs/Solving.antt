-- What is printed of a solved grid, by what solving answers.
-- Assumes nothing.
use Rattle.std.specs.Prelude.{Err, None, Ok, Option, Result, Some}
use mathlib.Core.Path.{◌≡◌, refl, sym, ◌∙◌, ap}
use mathlib.Core.Bool.{Bool, false}
use mathlib.Core.List.{List}
use Prim.Native.Nat.{ℕ, ◌*◌, ◌≤◌, ◌<◌}
use native.Mathlib.Nat.{mul-le-mul}
use native.Mathlib.Omega.{arith}
use lib.Dec.{leb}
use lib.ListN.{length, get_or}
use Rattle.board.specs.Answers.{Answer, gives, refuses, passed, ◌then◌, refuse_unless}
use Rattle.board.specs.Boards.{Sized, Bytes, Board}
use Rattle.board.specs.Checks.{length_check, table_size, table_check}
use Rattle.board.proofs.Answers.{refuses_none, then_gives, unless_gives}
use Rattle.board.proofs.Sums.{total_le}
use Rattle.board.proofs.Widths.{by_size}
use Rattle.rule.specs.Rule.{conway_rule, grid_check}
use Rattle.life.proofs.OnPlane.{state_small}
use Rattle.score_table.specs.Rows.{cell_worth}
use Rattle.score_table.proofs.Marks.{cell_worth_le}
use Rattle.job_kind.specs.Kinds.{read_check}
use Rattle.job.proofs.Fits.{frame_of}
use Rattle.job_kind.specs.declared.Kind.{Kind}
use Rattle.service.specs.Service.{finished, infeasible}
use Rattle.third_demand.specs.Grid.{score}
use Rattle.runner.specs.Solving.{memory_check, solve_check, solved_says, Ends, best, none, SolvesTo, Solves}
use Rattle.puzzle.specs.Printing.{Prints}
use Rattle.puzzle.specs.Answering.{printed, SolvesGrid}
use Rattle.board.specs.declared.Refusal.{Refusal}

-- a grid that is solved passed its checks, which give no values
unless_passed : (t : Bool) (n : ℕ) {values : List ℕ} → refuse_unless t n ≡ gives values → gives values ≡ passed
unless_passed t n e = sym e ∙ rw (unless_gives t n e) refl

-- and its size is one
check_passed : (w h : ℕ) (g t β : List ℕ) {values : List ℕ} → solve_check Kind.TwoLayers conway_rule w h g t β ≡ gives values
    → (solve_check Kind.TwoLayers conway_rule w h g t β ≡ passed) × Sized w h
unfolding solve_check memory_check
check_passed w h g t β e =
    let a = then_gives (grid_check false conway_rule w h) (read_check Kind.TwoLayers conway_rule w h g then memory_check Kind.TwoLayers w h t β) e in
    let b = then_gives (read_check Kind.TwoLayers conway_rule w h g) (memory_check Kind.TwoLayers w h t β) a.1 in
    let c = then_gives (length_check 5 w h β) (table_check w 2 t) b.1 in
    (e ∙ unless_passed (leb (table_size w 2) (length t)) 6 c.1, by_size (frame_of Kind.TwoLayers conway_rule w h a.0.1).size)

-- ---- a board's score is at most its number of cells
score_le : {w h : ℕ} (g : List ℕ) {cells : List ℕ} → Bytes 1 w h cells → score w h g cells ≤ w * h
unfolding score
score_le {w} {h} g {cells} b =
    let l = total_le (λ p. cell_worth (get_or g p 0) (get_or cells p 0)) 1 (λ p. omega (arith, cell_worth_le (get_or g p 0) (get_or cells p 0), state_small b p)) (w * h) in
    omega arith

-- ---- with a score, the board is one, and the score has at most three digits
apart : {n : ℕ} → finished n ≡ infeasible → ⊥
apart e = let z : ◌≡◌ {A = ℕ} 0 1 = cc e in omega arith

-- a board and a number of its live cells
record Scored (w h : ℕ) (board : List ℕ) (n : ℕ) : Type 0 where
  pub grid : Board w h board
  pub low : n ≤ w * h

ends_scored : {w h : ℕ} {g t β t' β' : List ℕ} {n : ℕ} → Sized w h → Ends Kind.TwoLayers conway_rule w h g t β (finished n) t' β' → Scored w h β' n
ends_scored {w} {h} {g} {β' = β'} {n = n} z (best o e F) =
    let q : n ≡ score w h g β' = cc e in
    record { grid = record { size = z; bytes = o.solution.bytes }; low = rw q (score_le g o.solution.bytes) }
ends_scored z (none n e k F) = absurd (apart e)

module _ {w h : ℕ} {g t β t' β' : List ℕ} {n : ℕ} (c : SolvesTo (solve_check Kind.TwoLayers conway_rule w h g t β) Kind.TwoLayers conway_rule w h g t β (finished n) t' β') where
  comes_scored : Scored w h β' n
  comes_scored = go (solve_check Kind.TwoLayers conway_rule w h g t β) refl
    where
      go : (a : Answer) → solve_check Kind.TwoLayers conway_rule w h g t β ≡ a → Scored w h β' n
      go (refuses k values) e = absurd (refuses_none (sym (c.turned k values e).0))
      go (gives values) e = let p = check_passed w h g t β e in ends_scored p.1 (c.ended p.0)

module _ {w h : ℕ} {g t β t' β' : List ℕ} {v : Result (Option ℕ) Refusal} (S : Solves Kind.TwoLayers conway_rule w h g t β v t' β') where
  scored : {n : ℕ} → v ≡ Ok (Some n) → Scored w h β' n
  scored e = comes_scored (rw (ap solved_says e) at S.comes)

  pub solved_board : {n : ℕ} → v ≡ Ok (Some n) → Board w h β'
  solved_board e = (scored e).grid

  pub score_short : {n : ℕ} → v ≡ Ok (Some n) → n < 1000
  score_short e =
      let s = scored e in
      let m = mul-le-mul s.grid.size.narrow s.grid.size.low in
      omega arith

  -- what it answers is printed
  pub prints_solved : {givens o o' : List ℕ} {n : ℕ} (u : Result (Option ℕ) Refusal) → g ≡ givens → v ≡ u → Prints (printed w h u β') o n o'
      → SolvesGrid w h givens t β o n t' β' o'
  prints_solved u given e P = record { answer = v; solves = rw given at S; prints = rw e P }
