-- What is lawful meets the third demand: over memory that the checks take, the list of calls does a machine's units; over any other memory every
-- working call is turned away.
-- Assumes nothing.
use mathlib.Core.Path.{◌≡◌, refl, sym, ◌∙◌, ap}
use mathlib.Core.List.{List}
use mathlib.Core.Logic.{⊎_elim}
use Prim.Native.Nat.{ℕ, ◌+◌, ◌≤◌, ◌<◌, min}
use native.Mathlib.Omega.{arith}
use Rattle.board.specs.Answers.{Answer, gives, refuses, passed, Checked}
use Rattle.board.proofs.Answers.{refuses_none}
use Rattle.elimination.specs.Machine.{advance}
use Rattle.std.proofs.lemmas.Bool.{cases_lt}
use Rattle.elimination.proofs.Machine.{advance_zero, after_units}
use Rattle.job.proofs.Fits.{pausable}
use Rattle.service.specs.Service.{State, Service, infeasible}
use Rattle.service.specs.Demand.{Call, run, Each, Fair, summed, Aim, Served, solved, unsolvable, Demand}
use Rattle.service.specs.Laws.{Course, Comes, to_board, to_none, Lawful, MeetsDemand}
use Rattle.service.proofs.Lists.{Reached, reached_fits, reached_units, listed, idle}

module _ (S : Service) (A : Aim S.Table) (given : S.Given) (s : State S.Table) (L : Lawful S A given s) where
  -- ---- memory that the checks take
  module _ (long : ℕ) (final : Answer) (wanted : List ℕ) (C : Course S A L.follows long final wanted s) where
    abbrev ComesTo : ℕ → State S.Table → Type 0
    ComesTo m e = Reached S A L.checks L.follows long final wanted s C m e

    settled : (m : ℕ) → advance L.M m (L.follows.view s) ≡ advance L.M (min m long) (L.follows.view s)
    settled m =
        ⊎_elim (λ (l : m < long). let e : m ≡ min m long = omega arith in ap (λ (x : ℕ). advance L.M x (L.follows.view s)) e)
        (λ (l : long ≤ m).
        let e : long ≡ min m long = omega arith in
        (after_units L.M C.lasts m).stays l ∙ ap (λ (x : ℕ). advance L.M x (L.follows.view s)) e)
        (cases_lt m long)

    served : (cs : List (Call S)) → Each S (Fair S given) cs s → Served S A long final wanted cs s
    served cs f =
        let begins : ComesTo 0 s = record { here = L.here; is = sym (advance_zero L.M (L.follows.view s)) } in
        let P = listed S A L.checks L.follows long final wanted s C cs 0 s begins f in
        let e : 0 + summed S cs s ≡ summed S cs s = omega arith in
        let R = rw e at P.reached in
        let u = reached_units S A L.checks L.follows long final wanted s C R in record {
          units = omega (arith, u);
          answers = P.answers;
          pausable = pausable (run S cs s).job (reached_fits S A L.checks L.follows long final wanted s C R);
          progress = C.progress (min (summed S cs s) long) (omega arith) (run S cs s) R.here (R.is ∙ settled (summed S cs s));
          board = λ l. C.board (run S cs s) (R.is ∙ (after_units L.M C.lasts (summed S cs s)).stays l);
        }

  -- ---- any other memory
  idle_served : (S.check s.job given s.table s.board ≡ passed → ⊥) → (long : ℕ) (final : Answer) (wanted : List ℕ) → 0 < long
      → (cs : List (Call S)) → Each S (Fair S given) cs s → Served S A long final wanted cs s
  idle_served shut long final wanted pos cs f =
      let fits = L.follows.fits s L.here in
      let I = idle S L.checks given s fits shut long final cs f in record {
        units = rw (I.state, I.sum, L.fresh) (omega arith);
        answers = I.answers;
        pausable = rw I.state (pausable s.job fits);
        progress = rw I.state (L.begins wanted);
        board = λ l. absurd (omega (arith, I.sum));
      }

  -- ---- either
  either : (long : ℕ) (final : Answer) (wanted : List ℕ) → 0 < long
      → (S.check s.job given s.table s.board ≡ passed → Course S A L.follows long final wanted s)
      → (cs : List (Call S)) → Each S (Fair S given) cs s → Served S A long final wanted cs s
  either long final wanted pos course cs f = go (S.check s.job given s.table s.board) refl (L.checks s.job given s.table s.board)
    where
      go : (a : Answer) → S.check s.job given s.table s.board ≡ a → Checked 9 a → Served S A long final wanted cs s
      go (gives values) e c = served long final wanted (course (e ∙ ap gives c)) cs f
      go (refuses n values) e c = idle_served (λ p. refuses_none (sym e ∙ p)) long final wanted pos cs f

  outcome : Comes S A L.follows s → Demand S A given s
  outcome (to_board best final w course) cs f = solved best final w (either A.board_length final best L.long course cs f)
  outcome (to_none none course) cs f = unsolvable none (either A.none_length infeasible s.board L.long_none course cs f)

pub meets_demand : MeetsDemand
meets_demand S A given s L = outcome S A given s L L.comes
