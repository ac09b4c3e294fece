-- `board::byte_at` meets its contract: outside the rows and columns and past the bytes it is 0, and the place is formed only where it is one of the bytes'.
-- Assumes nothing.
use mathlib.Core.Path.{sym}
use Prim.Native.Nat.{◌+◌, ◌*◌, ◌-◌, ◌/◌, ◌≤◌, ◌<◌}
use native.Mathlib.Nat.{div-lt_iff_lt-mul, le-div_iff_mul-le}
use native.Mathlib.Omega.{arith}
use borrow.Author.Rules.{rules}
use borrow.Author.Tests.{ltb-true, ltb-false}
use lib.ListN.{length}
use Rattle.board.proofs.Tests.{byte_at_lem, byte_none}
use Rattle.board.proofs.byte_at.Statement.{statement}
use Rattle.board.proofs.byte_at.Tie as tie

-- the place is one of the bytes'
place_at :
    (c : tie.Else-n-c-2) → let a = c.args in
    (a.r - 1) * a.w + (a.c - 1) < length a.bytes.now
place_at c =
    let a = c.args in
    let l : a.r - 1 ≤ (length a.bytes.now - a.c) / a.w = omega (arith, ltb-false) in
    let m = (le-div_iff_mul-le {k = a.w} (omega arith)).0 l in
    omega arith

returns-then-r-lt1 : tie.Need-returns-then-r-lt1
returns-then-r-lt1 c = let a = c.args in byte_none a.w a.h a.bytes.now a.r a.c (λ p q s t l. omega arith)

returns-then-h-r : tie.Need-returns-then-h-r
returns-then-h-r c = let a = c.args in byte_none a.w a.h a.bytes.now a.r a.c (λ p q s t l. omega arith)

returns-then-c-lt1 : tie.Need-returns-then-c-lt1
returns-then-c-lt1 c = let a = c.args in byte_none a.w a.h a.bytes.now a.r a.c (λ p q s t l. omega arith)

returns-then-w-c : tie.Need-returns-then-w-c
returns-then-w-c c = let a = c.args in byte_none a.w a.h a.bytes.now a.r a.c (λ p q s t l. omega arith)

returns-then-n-c : tie.Need-returns-then-n-c
returns-then-n-c c = let a = c.args in byte_none a.w a.h a.bytes.now a.r a.c (λ p q s t l. omega arith)

nonzero_div-n : tie.Need-nonzero_div-n
nonzero_div-n c = search rules

returns-then-n-c-2 : tie.Need-returns-then-n-c-2
returns-then-n-c-2 c =
    let a = c.args in
    let l : (length a.bytes.now - a.c) / a.w < a.r - 1 = omega (arith, ltb-true) in
    let m = (div-lt_iff_lt-mul {k = a.w} (omega arith)).0 l in
    byte_none a.w a.h a.bytes.now a.r a.c (λ p q s t b. omega arith)

overflow_mul-result : tie.Need-overflow_mul-result
overflow_mul-result c = omega (arith, place_at c)

overflow_add-result : tie.Need-overflow_add-result
overflow_add-result c = omega (arith, place_at c)

bounds-bytes-r : tie.Need-bounds-bytes-r
bounds-bytes-r c = place_at c.before

returns : tie.Need-returns
returns c =
    let a = c.args in
    sym (byte_at_lem a.w a.h a.bytes.now a.r a.c (omega arith) (omega arith) (omega arith) (omega arith))

pub byte_at_spec : {M : Type 1} → statement M
byte_at_spec = tie.close (tie.spec returns-then-r-lt1 returns-then-h-r returns-then-c-lt1 returns-then-w-c returns-then-n-c nonzero_div-n returns-then-n-c-2 overflow_mul-result overflow_add-result bounds-bytes-r returns)
