-- A number below m + 1 is m or below m.
-- Assumes nothing.
use mathlib.Core.Path.{◌≡◌}
use mathlib.Core.Logic.{◌⊎◌}
use Prim.Native.Nat.{ℕ, suc, ◌<◌}
use native.Mathlib.Nat.{eq-or-lt_of_le, le_of_suc-le-suc}

pub eq_or_lt_of_lt_suc : {m c : ℕ} → c < suc m → (c ≡ m) ⊎ (c < m)
eq_or_lt_of_lt_suc l = eq-or-lt_of_le (le_of_suc-le-suc l)
