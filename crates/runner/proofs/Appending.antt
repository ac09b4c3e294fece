-- A list of calls with one call more at its end: what it comes to, what holds of each of its calls, and the sum of its allowances.
-- Assumes nothing.
use mathlib.Core.Path.{◌≡◌, refl}
use mathlib.Core.List.{List, [], ◌∷◌, ◌++◌}
use Prim.Native.Nat.{◌+◌}
use native.Mathlib.Omega.{arith}
use Rattle.service.specs.Service.{State, Service}
use Rattle.service.specs.Demand.{Call, after_call, run, Each, allowed, summed}

module _ (S : Service) (c : Call S) where
  pub run_append : (cs : List (Call S)) (s : State S.Table) → run S (cs ++ (c ∷ [])) s ≡ after_call S c (run S cs s)
  unfolding run
  run_append [] s = refl
  run_append (d ∷ cs) s = run_append cs (after_call S d s)

  pub summed_append : (cs : List (Call S)) (s : State S.Table) → summed S (cs ++ (c ∷ [])) s ≡ summed S cs s + allowed S c (run S cs s)
  unfolding run summed
  summed_append [] s = omega arith
  summed_append (d ∷ cs) s = omega (arith, summed_append cs (after_call S d s))

  module _ (P : Call S → State S.Table → Type 0) where
    pub each_append : (cs : List (Call S)) (s : State S.Table) → Each S P cs s → P c (run S cs s) → Each S P (cs ++ (c ∷ [])) s
    unfolding run
    each_append [] s f p = (p, tt)
    each_append (d ∷ cs) s f p = (f.0, each_append cs (after_call S d s) f.1 p)

    pub each_last : (cs : List (Call S)) (s : State S.Table) → Each S P (cs ++ (c ∷ [])) s → P c (run S cs s)
    unfolding run
    each_last [] s f = f.0
    each_last (d ∷ cs) s f = each_last cs (after_call S d s) f.1
