-- The widths that the program's table has room for.
-- Assumes nothing.
use mathlib.Core.Path.{◌≡◌, refl, sym}
use mathlib.Core.Bool.{Bool, true, false}
use mathlib.Core.List.{[]}
use Prim.Native.Nat.{ℕ, ◌*◌, ◌^◌, ◌≤◌, ◌<◌}
use native.Mathlib.Decide.{dec_lt}
use native.Mathlib.Omega.{arith}
use borrow.Author.Tests.{leb-false, lt-leb}
use lib.Dec.{leb}
use lib.ListN.{length}
use lib.Pow.{pow_mono}
use Rattle.board.specs.Answers.{refuses, refuse_unless}
use Rattle.board.specs.Checks.{table_size}
use Rattle.board.proofs.Answers.{refuses_none}
use Rattle.board.proofs.Powers.{four_pow}
use Rattle.puzzle.specs.Sizes.{WideRefused}

-- two layers of 4^w entries, at most 7 columns and at least 8
narrow : (w : ℕ) → w < 8 → table_size w 2 ≤ 32768
unfolding table_size
narrow w l = let b : 2 ^ (2 * w) ≤ 2 ^ 14 = pow_mono {j = 14} (omega arith) in omega (arith, four_pow w)

wide : (w : ℕ) → 8 ≤ w → 32768 < table_size w 2
unfolding table_size
wide w l = let b : 2 ^ 16 ≤ 2 ^ (2 * w) = pow_mono {i = 16} (omega arith) in omega (arith, four_pow w)

pub wide_refused : WideRefused
wide_refused w h table size = (λ e. shows (leb (table_size w 2) (length table)) refl e, λ l. rw (lt-leb (table_size w 2) (length table) (omega (arith, size, wide w l))))
  where
    shows : (b : Bool) → leb (table_size w 2) (length table) ≡ b → refuse_unless b 6 ≡ refuses 6 [] → 8 ≤ w
    shows true e q = absurd (refuses_none (sym q))
    shows false e q = elim (dec_lt w 8) [
      | yes l ↦ absurd (omega (arith, size, narrow w l, leb-false (table_size w 2) (length table) e))
      | no l ↦ omega arith
    ]
