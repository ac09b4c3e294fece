-- Laws of a target's rows: the number that their bytes read as, and that of a target which is a board they are the board's rows.
-- Assumes nothing.
use mathlib.Core.Path.{◌≡◌, refl}
use mathlib.Core.List.{List}
use mathlib.Core.Bool.{Bool, true, false, cond}
use Prim.Native.Nat.{ℕ, zero, suc, ◌+◌, ◌*◌, ◌-◌, ◌%◌, ◌^◌, ◌<◌, ◌≤◌}
use native.Mathlib.Nat.{pow-suc}
use native.Mathlib.Numerals.{add-one}
use native.Mathlib.Omega.{arith}
use borrow.Author.Tests.{eqb-true, eqb-false}
use lib.Dec.{eqb}
use lib.ListN.{length, get_or, take, drop, length-take, length-drop}
use lib.Pow.{pow_mono}
use Rattle.std.proofs.lemmas.List.{get_or-take, get_or-drop}
use Rattle.board.specs.Boards.{among, max_mirror_width, Bytes}
use Rattle.board.proofs.Tests.{among_yes}
use Rattle.life.specs.Rows.{row_number, row_of}
use Rattle.score_table.specs.Rows.{target_number, target_row}
use Rattle.score_table.proofs.EntryLaws.{row_room}

-- the number that bytes read as, one byte after the other
pub target_number_none : (lent : List ℕ) (place : ℕ) → target_number lent place 0 ≡ 0
unfolding target_number
target_number_none lent place = refl

pub target_number_more : (lent : List ℕ) (place n : ℕ) → target_number lent place (n + 1) ≡ 2 * target_number lent place n + get_or lent (place + n) 0 % 2
unfolding target_number
target_number_more lent place n = rw (add-one n)

-- n bytes have n digits
pub target_number_lt : (lent : List ℕ) (place n : ℕ) → target_number lent place n < 2 ^ n
unfolding target_number
target_number_lt lent place zero = omega arith
target_number_lt lent place (suc n) = omega (arith, target_number_lt lent place n, pow-suc 2 n)

-- of zeros and ones it is the number that the cells read as
pub target_number_is : (lent : List ℕ) (place n : ℕ) → ((k : ℕ) → k < n → get_or lent (place + k) 0 ≤ 1) → target_number lent place n ≡ row_number lent place n
unfolding target_number row_number
target_number_is lent place zero small = refl
target_number_is lent place (suc n) small =
    let p : target_number lent place n ≡ row_number lent place n = target_number_is lent place n (λ k l. small k (omega arith)) in
    omega (arith, p, small n (omega arith))

-- the bytes that are walked for a row's number
pub run_length : (lent : List ℕ) (at w : ℕ) → at + w ≤ length lent → length (take (at + w - at) (drop at lent)) ≡ w
run_length lent at w l = let e : at + w - at ≡ w = omega arith in rw e (omega (arith, length-take w (drop at lent), length-drop at lent))

pub run_more : (lent : List ℕ) (at w k t : ℕ) → k < w → t ≡ target_number lent at k
    → 2 * t + get_or (take (at + w - at) (drop at lent)) k 0 % 2 ≡ target_number lent at (k + 1)
run_more lent at w k t l q =
    let e : at + w - at ≡ w = omega arith in
    rw (e, get_or-take w (drop at lent) k 0 l, get_or-drop at lent k 0, target_number_more lent at k, q)

-- a number of so few digits is small
pub run_small : (lent : List ℕ) (at w k t : ℕ) → w ≤ max_mirror_width → k ≤ w → t ≡ target_number lent at k → t ≤ 1048576
run_small lent at w k t l m q =
    let b : 2 ^ k ≤ 1048576 = pow_mono {j = 20} (omega arith) in
    omega (arith, target_number_lt lent at k)

-- what a row has to become: of a target that is a board the board's row
pub target_row_is : {w h : ℕ} {target : List ℕ} → Bytes 1 w h target → (i b : ℕ) → i ≤ h → target_row true w target i b ≡ row_of w h target i
unfolding row_of
target_row_is {w} {h} {target} B i b l = go (eqb i 0) refl
  where
    go : (t : Bool) → eqb i 0 ≡ t → cond t 0 (target_number target ((i - 1) * w) w) ≡ cond (among h i) (row_number target ((i - 1) * w) w) 0
    go true e = let z : i ≡ 0 = eqb-true i 0 e in rw z
    go false e =
        let p : 0 < i = omega (arith, eqb-false i 0 e) in
        let m : (i - 1) * w + w ≤ w * h = row_room w h (i - 1) (omega arith) in
        rw (among_yes h i p l) (target_number_is target ((i - 1) * w) w (λ k q. B.states ((i - 1) * w + k) (omega (arith, B.long, m))))
