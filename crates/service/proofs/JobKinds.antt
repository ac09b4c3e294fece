-- A kind of job that shows its laws is lawful, so it meets the third demand.
-- Assumes nothing.
use mathlib.Core.Path.{◌≡◌, refl, sym, ◌∙◌, ap, subst}
use mathlib.Core.Bool.{true≢false}
use mathlib.Core.List.{List}
use mathlib.Core.Logic.{⊎_elim}
use Prim.Native.Nat.{ℕ, ◌*◌, ◌≤◌, ◌<◌}
use native.Mathlib.Nat.{eq-or-lt_of_le}
use native.Mathlib.Omega.{arith}
use lib.ListN.{length}
use Rattle.board.specs.Answers.{Answer, passed}
use Rattle.elimination.specs.Endings.{NoEnding, Solved, no_ending, an_ending, BestEnding}
use Rattle.elimination.specs.Kind.{right_entry, right_rows}
use Rattle.elimination.specs.Machine.{advance, Lasts}
use Rattle.elimination.specs.Job.{Mark, finished, infeasible, end_mark, mark_number, Setup, opened, machine}
use Rattle.elimination.specs.Job as Elimination
use Rattle.elimination.specs.Completion.{Completion, board_end, none_end}
use Rattle.elimination.specs.Progress.{Carried, rows_held}
use Rattle.elimination.specs.Shape.{rows_chosen}
use Rattle.elimination.proofs.Endings.{elimination_solves}
use Rattle.elimination.proofs.Places.{orderly_sound}
use Rattle.elimination.proofs.Completion.{job_completes}
use Rattle.elimination.proofs.Shape.{rows_chosen_none, chosen_late}
use Rattle.elimination.proofs.Progress.{carried_none, progress_made}
use Rattle.job.specs.Jobs.{mark_of, live_of}
use Rattle.job.specs.declared.Stage.{Stage}
use Rattle.job.specs.declared.Job.{Job}
use Rattle.service.specs.Service.{stage_says, State, Step}
use Rattle.service.specs.Service as Service
use Rattle.service.specs.Laws.{Follows, Course, Comes, to_board, to_none, Lawful}
use Rattle.service.specs.JobKinds.{JobKind, rows_in, aim_of, service_of, KindLaws, Fresh, KindMeetsDemand}
use Rattle.service.proofs.Numbers.{continues}
use Rattle.service.proofs.Units.{mark_in, view, follows}
use Rattle.service.proofs.Demand.{meets_demand}

-- ---- stages
finished_says : (s : Stage) → mark_in (mark_of s) ≡ finished → stage_says s ≡ Service.finished (live_of s)
finished_says (Stage.Filling a l n) e = absurd (true≢false (sym (ap end_mark e)))
finished_says (Stage.Choosing a l n) e = absurd (true≢false (sym (ap end_mark e)))
finished_says (Stage.Finished a l n) e = refl
finished_says Stage.Infeasible e = absurd (let z : ◌≡◌ {A = ℕ} 0 1 = cc in omega arith)

infeasible_says : (s : Stage) → mark_in (mark_of s) ≡ infeasible → stage_says s ≡ Service.infeasible
infeasible_says (Stage.Filling a l n) e = absurd (true≢false (sym (ap end_mark e)))
infeasible_says (Stage.Choosing a l n) e = absurd (true≢false (sym (ap end_mark e)))
infeasible_says (Stage.Finished a l n) e = absurd (let z : ◌≡◌ {A = ℕ} 0 1 = cc in omega arith)
infeasible_says Stage.Infeasible e = refl

mark_number_lem : (s : Stage) → mark_number (mark_in (mark_of s)) ≡ mark_of s
mark_number_lem (Stage.Filling a l n) = refl
mark_number_lem (Stage.Choosing a l n) = refl
mark_number_lem (Stage.Finished a l n) = refl
mark_number_lem Stage.Infeasible = refl

abbrev Run : Type 0
Run = Elimination.State ℕ (List ℕ)

abbrev table_in : Run → List ℕ
table_in s = s.table

abbrev board_in : Run → List ℕ
board_in s = s.board

abbrev above_at : Run → ℕ
above_at s = s.above

abbrev last_at : Run → ℕ
last_at s = s.last

abbrev mark_at : Run → Mark
mark_at s = s.mark

abbrev so_far_at : Run → ℕ
so_far_at s = s.so_far

module _ (Given : Type 0) (check : Job → Given → List ℕ → List ℕ → Answer) (unit : Given → State (List ℕ) → Step (List ℕ)) (given : Given) (K : JobKind)
    (L : KindLaws Given check unit given K) (s : State (List ℕ)) (B : Fresh Given check unit given K s) where
  abbrev J : Setup ℕ (List ℕ)
  J = K.setup

  abbrev F : Follows (service_of Given check unit) given (machine K.setup)
  F = follows Given check unit given K.setup K.Of (continues K.setup K.shape K.Of L.numbered) L.units

  abbrev first : Run
  first = opened K.setup.kind s.table s.board

  abbrev after : ℕ → Run
  after m = advance (machine K.setup) m first

  -- the rows that a job has chosen, as the machine has them
  rows_held_lem : (e : State (List ℕ)) → rows_in K e.job ≡ rows_held K.shape (view e)
  rows_held_lem e = ap (rows_chosen K.shape e.job.units) (sym (mark_number_lem e.job.stage))

  view_first : view s ≡ first
  view_first = rw (B.units, B.above, B.last, B.live, B.mark, L.zero_start)

  -- ---- where the machine lasts `long` units, then says `final`, its board is `wanted`, and a row is chosen only where that is the wanted board
  module _ (long : ℕ) (final : Answer) (wanted : List ℕ) (lasts : Lasts (machine J) first long) (within : long ≤ K.shape.board_length)
      (room : K.shape.entries ≤ length s.table) (size : length s.board ≡ K.cells)
      (end : (e : State (List ℕ)) → view e ≡ after long → stage_says e.job.stage ≡ final)
      (only : (m : ℕ) → m ≤ long → 0 < rows_held K.shape (after m) → K.Wanted wanted) (last : (after long).board ≡ wanted) where
    progress : (m : ℕ) → m ≤ long → (e : State (List ℕ)) → F.Here e → view e ≡ after m → K.Progress wanted s e
    progress m l e H i =
        let tall : J.height * K.width ≤ length s.board = omega (arith, L.all_rows_lem) in
        let P = progress_made J K.shape K.width K.read K.shape.entries long L.numbered.plans L.numbered.rows L.numbered.shaped L.orderly L.wide L.high
        L.writer within s.table s.board room tall lasts m l in
        let u : e.job.units ≡ m = ap Elimination.done i ∙ lasts.counted m l in
        let k : rows_in K e.job ≡ rows_held K.shape (after m) = rows_held_lem e ∙ ap (rows_held K.shape) i in
        L.progress wanted s e H.of H.taken (λ p. only m l (omega arith)) (rw (u, ap table_in i) P.table) (rw (k, ap board_in i, ← last) P.board)
        (rw (k, ap above_at i, ap last_at i, ap so_far_at i, ← last) P.carried)

    goes_along : Course (service_of Given check unit) (aim_of K) F long final wanted s
    goes_along = record {
      lasts = rw view_first lasts;
      says = λ e p. end e (p ∙ ap (advance (machine J) long) view_first);
      progress = λ m l e H p. progress m l e H (p ∙ ap (advance (machine J) m) view_first);
      board = λ e p. ap board_in (p ∙ ap (advance (machine J) long) view_first) ∙ last;
    }

  -- ---- over memory that the checks take, the job comes to its end
  completes : K.shape.entries ≤ length s.table → Completion J L.course s.table s.board
  completes room =
      let P = orderly_sound J.kind J.height K.shape.entries K.shape.board_length J.plan L.course L.orderly L.scheduled (omega (arith, L.length_board)) L.wide in
      job_completes J L.course L.laws L.high L.wide P.0 s.table (P.1 s.table room) s.board

  abbrev rows : List ℕ
  rows = right_rows J.kind J.height 0 0

  abbrev worth : ℕ
  worth = right_entry J.kind J.height 0 0

  board_course : (T : BestEnding J.kind J.height 0 0 worth rows)
      → check s.job given s.table s.board ≡ passed
      → Course (service_of Given check unit) (aim_of K) F K.shape.board_length (Service.finished (K.score (L.board_of rows))) (L.board_of rows) s
  board_course T p = go (completes R.1)
    where
      R : (length s.board ≡ K.cells) × (K.shape.entries ≤ length s.table)
      R = L.room s.job s.table s.board B.of p

      go : Completion J L.course s.table s.board
          → Course (service_of Given check unit) (aim_of K) F K.shape.board_length (Service.finished (K.score (L.board_of rows))) (L.board_of rows) s
      go (Completion.to_board T' c) =
          let lasts : Lasts (machine J) first K.shape.board_length = rw L.length_board at c.lasts in
          let ends : after K.shape.board_length ≡ board_end J L.course s.table s.board = ap after (sym L.length_board) ∙ c.end in
          goes_along K.shape.board_length (Service.finished (K.score (L.board_of rows))) (L.board_of rows) lasts (omega arith) R.1 R.0
          (λ e i.
          finished_says e.job.stage (ap mark_at (i ∙ ends))
          ∙ ap Service.finished (ap so_far_at (i ∙ ends) ∙ sym (L.best worth rows T).1))
          (λ m l p. (L.best worth rows T).0)
          (ap board_in ends ∙ L.into rows T.lawful s.board R.0)
      go (Completion.to_none n c) = absurd (n rows T.lawful)

  -- where there is no board, no row is chosen
  rows_held_none : (m : ℕ) → (after K.shape.none_length).mark ≡ infeasible → Lasts (machine J) first K.shape.none_length → m ≤ K.shape.none_length
      → rows_held K.shape (after m) ≡ 0
  unfolding rows_chosen
  rows_held_none m n lasts l =
      ⊎_elim (λ (e : m ≡ K.shape.none_length). rw (e, n))
      (λ (b : m < K.shape.none_length).
      let z : K.shape.chosen m ≡ 0 = chosen_late K.shape L.numbered.shaped L.shorter m b in
      rows_chosen_none K.shape (after m).units (mark_number (after m).mark) (ap K.shape.chosen (lasts.counted m l) ∙ z))
      (eq-or-lt_of_le l)

  none_course : NoEnding J.kind J.height 0 0 → check s.job given s.table s.board ≡ passed
      → Course (service_of Given check unit) (aim_of K) F K.shape.none_length Service.infeasible s.board s
  none_course n p = go (completes R.1)
    where
      R : (length s.board ≡ K.cells) × (K.shape.entries ≤ length s.table)
      R = L.room s.job s.table s.board B.of p

      go : Completion J L.course s.table s.board → Course (service_of Given check unit) (aim_of K) F K.shape.none_length Service.infeasible s.board s
      go (Completion.to_board T c) = absurd (n rows T.lawful)
      go (Completion.to_none n' c) =
          let lasts : Lasts (machine J) first K.shape.none_length = rw L.length_none at c.lasts in
          let ends : after K.shape.none_length ≡ none_end J L.course s.table s.board = ap after (sym L.length_none) ∙ c.end in
          goes_along K.shape.none_length Service.infeasible s.board lasts L.shorter R.1 R.0
          (λ e i. infeasible_says e.job.stage (ap mark_at (i ∙ ends)))
          (λ m l p. absurd (omega (arith, rows_held_none m (ap mark_at ends) lasts l))) (ap board_in ends)

  comes : Comes (service_of Given check unit) (aim_of K) F s
  comes = go (elimination_solves J.kind J.height L.laws J.height 0 0 (omega arith))
    where
      go : Solved J.kind J.height 0 0 worth rows → Comes (service_of Given check unit) (aim_of K) F s
      go (no_ending n p q) = to_none (L.none n) (none_course n)
      go (an_ending T) =
          to_board (L.board_of rows) (Service.finished (K.score (L.board_of rows))) (record { wanted = (L.best worth rows T).0; says = refl }) (board_course T)

  none_yet : rows_in K s.job ≡ 0
  none_yet = rows_chosen_none K.shape s.job.units (mark_of s.job.stage) (ap K.shape.chosen B.units ∙ L.numbered.shaped.none_chosen)

  -- nothing is done at unit 0
  begins : (wanted : List ℕ) → K.Progress wanted s s
  begins wanted =
      L.progress wanted s s B.of B.fits (λ p. absurd (omega (arith, none_yet)))
      (rw B.units (record { size = refl; right = λ p k j S. absurd (omega (arith, S.before)); rest = λ p f. refl }))
      (rw none_yet (record { size = refl; rows = λ p l. absurd (omega arith); rest = λ p l. refl }))
      (rw (none_yet, B.above, B.last, B.live) (subst (λ (x : ℕ). Carried K.setup K.read 0 wanted 0 0 x) L.zero_start (carried_none K.setup K.read wanted)))

  lengths : 0 < K.shape.none_length
  lengths = omega (arith, L.length_none)

  lawful : Lawful (service_of Given check unit) (aim_of K) given s
  lawful = record {
    W = Run;
    M = machine J;
    follows = F;
    checks = L.checks;
    here = record { of = B.of; taken = B.fits };
    fresh = B.units;
    begins = begins;
    long = omega (arith, lengths, L.shorter);
    long_none = lengths;
    comes = comes;
  }

pub kind_meets_demand : (Given : Type 0) (check : Job → Given → List ℕ → List ℕ → Answer) (unit : Given → State (List ℕ) → Step (List ℕ)) (given : Given) (K : JobKind)
    → KindMeetsDemand Given check unit given K
kind_meets_demand Given check unit given K L s B = meets_demand (service_of Given check unit) (aim_of K) given s (lawful Given check unit given K L s B)
