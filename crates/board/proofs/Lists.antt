-- Laws of `listed`: its length, its entries, the loop that writes it, and the one list that has its entries.
-- Assumes nothing.
use mathlib.Core.Path.{◌≡◌, refl, ◌∙◌, sym}
use mathlib.Core.Logic.{⊎_elim}
use mathlib.Core.List.{List, [], ◌∷◌, ◌++◌, append_assoc, append-nil}
use Prim.Native.Nat.{ℕ, zero, suc, ◌+◌, ◌<◌}
use native.Mathlib.Nat.{not-suc-le-zero, eq-or-lt_of_le, le_of_suc-le-suc}
use native.Mathlib.Numerals.{add-one}
use native.Mathlib.Omega.{arith}
use lib.ListN.{length, get_or, set, drop, length-append, get_or-append, drop_of_length-le}
use lib.Seq.{set_at, drop-cons, get_or_at, ext_get_or}
use Rattle.board.specs.Lists.{listed}

module _ (f : ℕ → ℕ) where
  pub length_listed : (n : ℕ) → length (listed f n) ≡ n
  unfolding listed
  length_listed zero = refl
  length_listed (suc n) = length-append (listed f n) (f n ∷ []) ∙ omega (arith, length_listed n)

  pub get_d_listed : (n k : ℕ) → k < n → get_or (listed f n) k 0 ≡ f k
  unfolding listed
  get_d_listed zero k l = absurd (not-suc-le-zero l)
  get_d_listed (suc n) k l =
      ⊎_elim
      (λ (e : k ≡ n). rw e (get_or_at (listed f n) (f n) [] 0 n (length_listed n)))
      (λ (m : k < n). get_or-append (listed f n) (f n ∷ []) 0 k (omega (arith, length_listed n)) ∙ get_d_listed n k m)
      (eq-or-lt_of_le (le_of_suc-le-suc l))

  -- a loop's turns: the first entries are written, and the rest are as they were
  pub listed_none : (l : List ℕ) → l ≡ listed f 0 ++ drop 0 l
  unfolding listed
  listed_none l = refl

  pub listed_more : (l : List ℕ) (k : ℕ) → k < length l → set (listed f k ++ drop k l) k (f k) ≡ listed f (k + 1) ++ drop (k + 1) l
  unfolding listed
  listed_more l k p =
      rw (drop-cons l k 0 p, set_at (listed f k) (get_or l k 0) (drop (suc k) l) (f k) k (length_listed k), add-one k)
      (sym (append_assoc (listed f k) (f k ∷ []) (drop (suc k) l)))

  pub listed_all : (l : List ℕ) (n : ℕ) → length l ≡ n → listed f n ++ drop n l ≡ listed f n
  listed_all l n e = let d : drop n l ≡ [] = drop_of_length-le l {i = n} (omega arith) in rw d (append-nil (listed f n))

  -- a list of n entries that are f's
  pub listed_of : (l : List ℕ) (n : ℕ) → length l ≡ n → ((k : ℕ) → k < n → get_or l k 0 ≡ f k) → l ≡ listed f n
  listed_of l n e same =
      ext_get_or 0 l (listed f n) (omega (arith, length_listed n))
      (λ k m. let q : k < n = omega arith in same k q ∙ sym (get_d_listed n k q))
