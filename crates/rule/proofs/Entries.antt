-- A list of 512 numbers holds Life's rule where one test, computed over the whole list, passes.
-- Assumes nothing.
use mathlib.Core.Path.{◌≡◌, refl, ◌∙◌, ap}
use mathlib.Core.Bool.{Bool, cond}
use mathlib.Core.List.{List}
use Prim.Native.Nat.{ℕ}
use native.Mathlib.Omega.{arith}
use lib.Dec.{T, eqb, eqb→eq}
use lib.ListN.{length, get_or}
use Rattle.board.specs.Sums.{total}
use Rattle.board.proofs.Sums.{total_same}
use Rattle.rule.specs.Rule.{Conway, conway, entry_of, unchanged, digit}
use Rattle.rule.specs.Theorems.{Counts}
use Rattle.rule.proofs.Every.{every, at}

-- entry p is Life's next state of pattern p
unfoldable pub right : ℕ → ℕ → Bool
right p x = eqb x (conway p)

pub conway_table : (table : List ℕ) → length table ≡ 512 → T (every right 0 table) → Conway table
unfolding right
conway_table table n t = record { entry = λ p l. eqb→eq (get_or table p 0) (conway p) (at right table t p (omega arith)) }

-- 140 live, 284 unchanged
conway_counts : (total conway 512 ≡ 140) × (total (unchanged conway) 512 ≡ 284)
unfolding conway total
conway_counts = (refl, refl)

pub counts : Counts
counts table t = (
  total_same (entry_of table) conway 512 t.entry ∙ conway_counts.0,
  total_same (unchanged (entry_of table)) (unchanged conway) 512 (λ p l. ap (λ (x : ℕ). cond (eqb x (digit p 16)) 1 0) (t.entry p l)) ∙ conway_counts.1,
)
