-- Laws of the tests that definitions are made of: both of two, one of two, one of 1 to n, and a byte in a row and a column.
-- Assumes nothing.
use mathlib.Core.Path.{◌≡◌, refl, sym}
use mathlib.Core.Bool.{Bool, true, false, cond, ◌&&◌, ◌||◌, true≢false}
use mathlib.Core.Logic.{◌⊎◌, inl, inr}
use mathlib.Core.List.{List}
use Prim.Native.Nat.{ℕ, ◌+◌, ◌*◌, ◌-◌, ◌<◌, ◌≤◌}
use native.Mathlib.Decide.{dec_lt}
use native.Mathlib.Omega.{arith}
use borrow.Author.Tests.{leb-true, le-leb, lt-leb}
use lib.Dec.{leb}
use lib.ListN.{length, get_or, get_or-eq_default}
use Rattle.board.specs.Boards.{among, byte_at}

pub and_left : (s t : Bool) → s && t ≡ true → s ≡ true
and_left true t e = refl
and_left false t e = e

pub and_right : (s t : Bool) → s && t ≡ true → t ≡ true
and_right true t e = e
and_right false t e = absurd (true≢false (sym e))

pub and_true : {s t : Bool} → s ≡ true → t ≡ true → s && t ≡ true
and_true p q = rw (p, q)

pub and_false : (s : Bool) → s && false ≡ false
and_false true = refl
and_false false = refl

pub or_true : (s t : Bool) → s || t ≡ true → (s ≡ true) ⊎ (t ≡ true)
or_true true t e = inl refl
or_true false t e = inr e

pub among_yes : (n i : ℕ) → 0 < i → i ≤ n → among n i ≡ true
among_yes n i p q = rw (le-leb 1 i p, le-leb i n q)

pub among_in : (n i : ℕ) → among n i ≡ true → (0 < i) × (i ≤ n)
among_in n i e = (leb-true 1 i (and_left (leb 1 i) (leb i n) e), leb-true i n (and_right (leb 1 i) (leb i n) e))

pub among_past : (n i : ℕ) → n < i → among n i ≡ false
among_past n i p = rw (le-leb 1 i (omega arith), lt-leb i n p)

-- in a row and a column of the grid it is the byte at its place
pub byte_at_lem : (w h : ℕ) (bytes : List ℕ) (r c : ℕ) → 0 < r → r ≤ h → 0 < c → c ≤ w → byte_at w h bytes r c ≡ get_or bytes ((r - 1) * w + (c - 1)) 0
byte_at_lem w h bytes r c p q s t = rw (among_yes h r p q, among_yes w c s t)

-- outside the rows and columns, and past the bytes, it is 0
pub byte_none : (w h : ℕ) (bytes : List ℕ) (r c : ℕ) → (0 < r → r ≤ h → 0 < c → c ≤ w → (r - 1) * w + (c - 1) < length bytes → ⊥) → 0 ≡ byte_at w h bytes r c
byte_none w h bytes r c n = go (among h r) (among w c) refl refl
  where
    go : (s t : Bool) → among h r ≡ s → among w c ≡ t → 0 ≡ cond (s && t) (get_or bytes ((r - 1) * w + (c - 1)) 0) 0
    go true true p q =
        elim (dec_lt ((r - 1) * w + (c - 1)) (length bytes)) [
          | yes l ↦ absurd (n (among_in h r p).0 (among_in h r p).1 (among_in w c q).0 (among_in w c q).1 l)
          | no m ↦ sym (get_or-eq_default bytes 0 (omega arith))
        ]
    go true false p q = refl
    go false t p q = refl
