-- Laws of a list whose first elements are written anew, one by one or block by block.
-- Assumes nothing.
use mathlib.Core.Path.{◌≡◌, sym}
use mathlib.Core.List.{List, [], ◌++◌, append_assoc, append-nil}
use Prim.Native.Nat.{ℕ, suc, ◌+◌, ◌-◌, ◌<◌, ◌≤◌}
use native.Mathlib.Numerals.{add-one}
use native.Mathlib.Omega.{arith}
use borrow.Rule.Slice.PartMut.{put_mid}
use lib.ListN.{length, get_or, set, take, drop, length-drop, drop_of_length-le}
use lib.Seq.{take_all, take-suc, drop-cons, append_snoc, set_at, length-take-le, take-add, drop-drop, take_at, drop_at}

-- the first n of `new`, over `old`
abbrev pub over : List ℕ → ℕ → List ℕ → List ℕ
over new n old = take n new ++ drop n old

module _ (new old : List ℕ) where
  -- one more element
  pub over_more : (k : ℕ) → k < length new → k < length old → set (over new k old) k (get_or new k 0) ≡ over new (k + 1) old
  over_more k hn ho =
      rw (add-one k, drop-cons old k 0 ho, take-suc new k 0 hn, append_snoc (take k new) (get_or new k 0) (drop (suc k) old))
      (set_at (take k new) (get_or old k 0) (drop (suc k) old) (get_or new k 0) k (length-take-le k new (omega arith)))

  pub over_all : (n : ℕ) → length new ≤ n → over new n old ≡ new ++ drop n old
  over_all n h = rw (take_all n new h)

-- the part of a list from k on, as a loan has it
pub rest_whole : (k : ℕ) (l : List ℕ) → take (length l - k) (drop k l) ≡ drop k l
rest_whole k l = take_all (length l - k) (drop k l) (rw (length-drop k l) (omega arith))

-- `new` from k on is a block of n and the rest
module _ (new block rest : List ℕ) (k n : ℕ) (split : drop k new ≡ block ++ rest) (long : length block ≡ n) where
  pub block_rest : drop (k + n) new ≡ rest
  block_rest = rw (← drop-drop n k new) (rw split (drop_at block rest n long))

  -- the part of a list from k on is lent, the block is written at its start, and it comes back
  pub lent_block : (old l part : List ℕ) → k ≤ length new → l ≡ over new k old → part ≡ block ++ drop n (take (length l - k) (drop k l))
      → put_mid k (length l - k) l part ≡ over new (k + n) old
  lent_block old l part h e p =
      let front : take k l ≡ take k new = rw e (take_at (take k new) (drop k old) k (length-take-le k new h)) in
      let back : drop k l ≡ drop k old = rw e (drop_at (take k new) (drop k old) k (length-take-le k new h)) in
      let none : drop (length l - k) (drop k l) ≡ [] = drop_of_length-le (drop k l) (let m : length (drop k l) ≤ length l - k = rw (length-drop k l) (omega arith) in m) in
      let here : take n (drop k new) ≡ block = rw split (take_at block rest n long) in
      let whole : part ≡ block ++ drop n (drop k l) = rw (rest_whole k l) at p in
      rw (none, append-nil part, whole, front, back, take-add k n new, here, drop-drop n k old) (sym (append_assoc (take k new) block (drop (k + n) old)))
