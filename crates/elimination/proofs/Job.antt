-- Laws of a job's unit: what it does to a running job by its task, and that an ended job stays as it is.
-- Assumes nothing.
use mathlib.Core.Path.{◌≡◌, refl, sym}
use mathlib.Core.Bool.{true, true≢false}
use Prim.Native.Nat.{ℕ, suc, ◌-◌}
use Rattle.elimination.specs.Kind.{choose}
use Rattle.elimination.specs.Table.{reads}
use Rattle.elimination.specs.Task.{Task, fill, row, is_fill, fill_task}
use Rattle.elimination.specs.Job.{Mark, running, finished, infeasible, State, Setup, end_mark, take_row, act, act_if, unit, EndedStays}

module _ {X B : Type 0} (J : Setup X B) where
  -- an ended job stays as it is
  pub unit_ended : EndedStays J
  unfolding unit
  unit_ended s e = go s.mark e
    where
      go : (m : Mark) → end_mark m ≡ true → act_if J m (J.plan s.units) s ≡ s
      go running e = absurd (true≢false (sym e))
      go finished e = refl
      go infeasible e = refl

  pub unit_running : (s : State X B) → s.mark ≡ running → unit J s ≡ act J (J.plan s.units) s
  unfolding unit
  unit_running s e = rw e

  -- a unit that fills
  pub act_fill : (task : Task) → is_fill task ≡ true → (s : State X B)
      → act J task s ≡ record { units = suc s.units; above = s.above; last = s.last; so_far = s.so_far; mark = s.mark; table = fill_task J.kind task s.table; board = s.board }
  act_fill (fill k source target j) e s = refl
  act_fill (row r source) e s = absurd (true≢false (sym e))

  -- a unit that chooses row r
  pub unit_row : (s : State X B) (r source : ℕ) → s.mark ≡ running → J.plan s.units ≡ row r source
      → unit J s ≡ take_row J r s (choose J.kind (J.height - suc r) s.above s.last (reads J.kind s.table source s.last))
  unfolding unit
  unit_row s r source e p = rw (e, p)
