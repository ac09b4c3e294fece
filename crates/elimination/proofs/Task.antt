-- Laws of tasks: a task that chooses doesn't fill, and tasks done one after another.
-- Assumes nothing.
use mathlib.Core.Path.{◌≡◌, refl}
use mathlib.Core.List.{List}
use Prim.Native.Nat.{ℕ, zero, suc, ◌+◌}
use native.Mathlib.Nat.{zero-add, add-zero}
use native.Mathlib.Omega.{arith}
use Rattle.elimination.specs.Kind.{Kind}
use Rattle.elimination.specs.Task.{Task, fill, row, fill_task, after_tasks}

pub row_not_fill : {A : Type 0} {r s k source target j : ℕ} → row r s ≡ fill k source target j → A
row_not_fill e = absurd (let z : ◌≡◌ {A = ℕ} 0 1 = cc in omega arith)

module _ {X : Type 0} (G : Kind X) (plan : ℕ → Task) where
  pub tasks_none : (t : List X) → after_tasks G plan 0 0 t ≡ t
  unfolding after_tasks
  tasks_none t = refl

  pub tasks_more : (m : ℕ) (t : List X) → after_tasks G plan 0 (suc m) t ≡ fill_task G (plan m) (after_tasks G plan 0 m t)
  unfolding after_tasks
  tasks_more m t = rw (zero-add m)

  pub tasks_add : (u m : ℕ) (t : List X) → after_tasks G plan u m (after_tasks G plan 0 u t) ≡ after_tasks G plan 0 (u + m) t
  unfolding after_tasks
  tasks_add u zero t = rw (add-zero u)
  tasks_add u (suc m) t = let e : u + suc m ≡ suc (u + m) = omega arith in rw (e, tasks_add u m t, zero-add (u + m))
