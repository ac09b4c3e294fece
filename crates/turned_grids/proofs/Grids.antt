-- Turned boards and grids: what holds of the two reflections that all eight turns are made of holds of all, and back by the inverse.
-- Assumes nothing.
use mathlib.Core.Path.{◌≡◌, refl, sym, ◌∙◌, ap, ap₂, subst}
use mathlib.Core.Bool.{false≢true}
use Rattle.std.specs.Prelude.{Option, Some}
use mathlib.Core.List.{List}
use Prim.Native.Nat.{ℕ, ◌*◌, ◌<◌, ◌≤◌}
use native.Mathlib.Omega.{arith}
use lib.ListN.{length, get_or}
use Rattle.board.specs.Boards.{max_width, Sized, Bytes}
use Rattle.board.proofs.Sums.{total_same}
use Rattle.board.proofs.Widths.{size_by}
use Rattle.rule.specs.Rule.{Allowed}
use Rattle.rule.specs.declared.Rule.{Rule}
use Rattle.life.specs.Plane.{on_plane, Still}
use Rattle.score_table.specs.Rows.{cell_worth}
use Rattle.job_kind.specs.declared.Kind.{Kind}
use Rattle.third_demand.specs.Grid.{KeepsGivens, Solution, Optimal, score}
use Rattle.third_demand.specs.Theorems.{BestOrNone}
use Rattle.third_demand.specs.Theorems as Solver
use Rattle.third_demand.proofs.Theorems.{choice_is_optimal}
use Rattle.turns.specs.Turn.{Quarters, none, once, twice, thrice, Turn, inverse, side_after, turned_width, turned_height, source, turned_bytes}
use Rattle.turns.proofs.Cells.{width_twice, height_twice}
use Rattle.turns.proofs.Places.{area, source_lt, turned_length, turned_at, turned_twice, undone, turned_back}
use Rattle.turns.proofs.Eight.{every_turn}
use Rattle.turns.proofs.Sums.{total_kept}
use Rattle.turned_grids.specs.Grids.{StillTurned, ScoreTurned, Turnable, GridTurned, SolutionTurned, BestScore, best, no_board, SameBestScore}
use Rattle.turned_grids.proofs.Planes.{reflected_still, diagonal_still}

-- ---- still boards
abbrev StillKept : Turn → Type 0
StillKept t =
    (rule : Rule) (w h : ℕ) (xs : List ℕ) → Still rule (on_plane w h xs) → Still rule (on_plane (turned_width t w h) (turned_height t w h) (turned_bytes t w h xs))

still_kept : (t : Turn) → StillKept t
still_kept =
    every_turn StillKept (λ rule w h xs S. reflected_still w h xs rule S) (λ rule w h xs S. diagonal_still w h xs rule S)
    (λ t u p q rule w h xs S.
    rw (← width_twice t u w h, ← height_twice t u w h, ← turned_twice t u w h 0 xs)
    (q rule (turned_width t w h) (turned_height t w h) (turned_bytes t w h xs) (p rule w h xs S)))

-- ---- scores
pub score_turned : ScoreTurned
unfolding score
score_turned t w h g b =
    rw (area t w h)
    (total_same _ _ (w * h) (λ k l. ap₂ cell_worth (turned_at t w h 0 g l) (turned_at t w h 0 b l))
    ∙ total_kept t (λ p. cell_worth (get_or g p 0) (get_or b p 0)) w h)

-- ---- grids and boards
side_both : (P : ℕ → Type 0) (q : Quarters) {w h : ℕ} → P w → P h → P (side_after q w h)
side_both P none p q = p
side_both P once p q = q
side_both P twice p q = p
side_both P thrice p q = q

module _ (t : Turn) {w h : ℕ} where
  turned_low : Sized w h → h ≤ max_width → turned_height t w h ≤ max_width
  turned_low z l = side_both (λ x. x ≤ max_width) t.quarters l z.narrow

  turned_size : Sized w h → h ≤ max_width → Sized (turned_width t w h) (turned_height t w h)
  turned_size z l =
      let low = turned_low z l in
      record {
        some_column = side_both (λ x. 0 < x) t.quarters z.some_column z.some_row;
        narrow = side_both (λ x. x ≤ max_width) t.quarters z.narrow l;
        some_row = side_both (λ x. 0 < x) t.quarters z.some_row z.some_column;
        low = omega arith;
      }

  turned_bytes_lem : {most : ℕ} {xs : List ℕ} → Bytes most w h xs → Bytes most (turned_width t w h) (turned_height t w h) (turned_bytes t w h xs)
  turned_bytes_lem {most} {xs} b = record {
    long = turned_length t w h 0 xs ∙ sym (area t w h);
    states = λ k l.
        let m : k < w * h = rw (turned_length t w h 0 xs) at l in
        rw (turned_at t w h 0 xs m) (b.states (source t w h k) (rw b.long (source_lt t w h m)));
  }

  turned_keeps : {g b : List ℕ} → KeepsGivens w h g b → KeepsGivens (turned_width t w h) (turned_height t w h) (turned_bytes t w h g) (turned_bytes t w h b)
  turned_keeps {g} {b} K = record {
    dead = λ p l e. let m = rw (area t w h) at l in turned_at t w h 0 b m ∙ K.dead (source t w h p) (source_lt t w h m) (sym (turned_at t w h 0 g m) ∙ e);
    live = λ p l e. let m = rw (area t w h) at l in turned_at t w h 0 b m ∙ K.live (source t w h p) (source_lt t w h m) (sym (turned_at t w h 0 g m) ∙ e);
  }

  solution_kept : {rule : Rule} {g b : List ℕ} → Solution rule w h g b
      → Solution rule (turned_width t w h) (turned_height t w h) (turned_bytes t w h g) (turned_bytes t w h b)
  solution_kept {rule} {b = b} S = record {
    bytes = turned_bytes_lem S.bytes;
    still = still_kept t rule w h b S.still;
    keeps = turned_keeps S.keeps;
  }

pub grid_turned : GridTurned
grid_turned t w h g T = record {
  grid = record { size = turned_size t T.grid.size T.low; bytes = turned_bytes_lem t T.grid.bytes };
  low = turned_low t T.grid.size T.low;
}

-- ---- back by the inverse
module _ (t : Turn) (w h : ℕ) where
  width_back : turned_width (inverse t) (turned_width t w h) (turned_height t w h) ≡ w
  width_back = width_twice t (inverse t) w h ∙ ap (λ v. turned_width v w h) (undone t)

  height_back : turned_height (inverse t) (turned_width t w h) (turned_height t w h) ≡ h
  height_back = height_twice t (inverse t) w h ∙ ap (λ v. turned_height v w h) (undone t)

  -- what holds of a list turned and turned back holds of the list
  pub back : (Q : ℕ → ℕ → List ℕ → Type 0) (xs : List ℕ) → length xs ≡ w * h
      → Q (turned_width (inverse t) (turned_width t w h) (turned_height t w h)) (turned_height (inverse t) (turned_width t w h) (turned_height t w h))
      (turned_bytes (inverse t) (turned_width t w h) (turned_height t w h) (turned_bytes t w h xs))
      → Q w h xs
  back Q xs e x = rw (width_back, height_back, turned_back 0 t w h xs e) at x

pub still_turned : StillTurned
still_turned rule t w h b e = (
  still_kept t rule w h b,
  λ S. back t w h (λ w h xs. Still rule (on_plane w h xs)) b e (still_kept (inverse t) rule (turned_width t w h) (turned_height t w h) (turned_bytes t w h b) S),
)

-- a turned grid's solution, turned back
module _ (rule : Rule) (t : Turn) {w h : ℕ} {g : List ℕ} (T : Turnable w h g) where
  abbrev W : ℕ
  W = turned_width t w h

  abbrev H : ℕ
  H = turned_height t w h

  abbrev tg : List ℕ
  tg = turned_bytes t w h g

  turned_solution : {b : List ℕ} → Solution rule w h g b → Solution rule W H tg (turned_bytes t w h b)
  turned_solution S = solution_kept t S

  back_solution : {c : List ℕ} → Solution rule W H tg c → Solution rule w h g (turned_bytes (inverse t) W H c)
  back_solution {c} S =
      back t w h (λ w h xs. Solution rule w h xs (turned_bytes (inverse t) W H c)) g T.grid.bytes.long
      (solution_kept (inverse t) S)

  back_score : (c : List ℕ) → score w h g (turned_bytes (inverse t) W H c) ≡ score W H tg c
  back_score c =
      back t w h (λ w h xs. score w h xs (turned_bytes (inverse t) W H c) ≡ score W H tg c) g T.grid.bytes.long (score_turned (inverse t) W H tg c)

  same_score : {b c : List ℕ} → Optimal rule w h g b → Optimal rule W H tg c → score w h g b ≡ score W H tg c
  same_score {b} {c} B C =
      omega (
        arith,
        C.unbeaten (turned_bytes t w h b) (turned_solution B.solution),
        score_turned t w h g b,
        B.unbeaten (turned_bytes (inverse t) W H c) (back_solution C.solution),
        back_score c,
      )

  pub same_best : {x y : Option ℕ} → BestScore rule w h g x → BestScore rule W H tg y → x ≡ y
  same_best (best b B) (best c C) = ap Some (same_score B C)
  same_best (best b B) (no_board n) = absurd (n (turned_bytes t w h b) (turned_solution B.solution))
  same_best (no_board n) (best c C) = absurd (n (turned_bytes (inverse t) W H c) (back_solution C.solution))
  same_best (no_board n) (no_board m) = refl

pub solution_turned : SolutionTurned
solution_turned rule t w h g b T e = (
  turned_solution rule t T,
  λ S. subst (Solution rule w h g) (turned_back 0 t w h b e) (back_solution rule t T S),
)

-- ---- the best score
has_best : {rule : Rule} → Allowed rule → {w h : ℕ} → Sized w h → (g : List ℕ) → (x : Option ℕ) × BestScore rule w h g x
has_best {rule} allowed {w} {h} z g = go (choice_is_optimal Kind.Ordinary rule allowed w h g (λ e. absurd (false≢true e)) (size_by z))
  where
    go : BestOrNone Kind.Ordinary rule w h g → (x : Option ℕ) × BestScore rule w h g x
    go (Solver.best b B rows is) = (Some (score w h g b), best b B)
    go (Solver.none n is) = (Option.None, no_board n)

pub same_best_score : SameBestScore
same_best_score rule allowed t w h g T =
    let here = has_best allowed T.grid.size g in
    let there = has_best allowed (grid_turned t w h g T).grid.size (turned_bytes t w h g) in (
      (here.0, here.1, λ y B. same_best rule t T B there.1 ∙ sym (same_best rule t T here.1 there.1)),
      λ x. (
        λ B. subst (BestScore rule (turned_width t w h) (turned_height t w h) (turned_bytes t w h g)) (sym (same_best rule t T B there.1)) there.1,
        λ C. subst (BestScore rule w h g) (same_best rule t T here.1 C) here.1,
      ),
    )
