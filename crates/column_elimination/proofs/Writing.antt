-- Laws of runs of stores.
-- Assumes nothing.
use mathlib.Core.Path.{◌≡◌, refl, ◌∙◌, sym, ap}
use mathlib.Core.List.{List}
use Prim.Native.Nat.{ℕ, ◌+◌, ◌*◌, ◌-◌, ◌≤◌, ◌<◌}
use native.Mathlib.Nat.{mul-le-mul_right}
use native.Mathlib.Omega.{arith}
use native.Mathlib.Decide.{dec_lt}
use lib.ListN.{length, get_or, set, length-set}
use lib.Seq.{get_or-set_same, get_or-set_other}
use Rattle.column_elimination.specs.Written.{Wrote, Spread}

pub wrote_none : (o : ℕ) (f : ℕ → ℕ) (l : List ℕ) → Wrote o 0 f l l
wrote_none o f l = record { long = refl; inside = λ y h r. absurd (omega arith); before = λ p h. refl; after = λ p h. refl }

-- one store more
pub wrote_more : {o n : ℕ} {f : ℕ → ℕ} {old new : List ℕ} → Wrote o n f old new → (p : ℕ) → p ≡ o + n → (v : ℕ) → v ≡ f n → Wrote o (n + 1) f old (set new p v)
wrote_more {o} {n} {f} {old} {new} W i s v e = record {
  long = length-set new i v ∙ W.long;
  inside = λ y l r.
      elim (dec_lt y n) [
        | yes q ↦ get_or-set_other new i (o + y) v 0 (λ z. omega arith) ∙ W.inside y q r
        | no q ↦ let z : o + y ≡ i = omega arith in
            let x : y ≡ n = omega arith in
            rw z (get_or-set_same new i v 0 (omega (arith, W.long)) ∙ e ∙ ap f (sym x))
      ];
  before = λ p l. get_or-set_other new i p v 0 (λ z. omega arith) ∙ W.before p l;
  after = λ p l. get_or-set_other new i p v 0 (λ z. omega arith) ∙ W.after p (omega arith);
}

-- a run after a run
pub wrote_join : {o n m o' : ℕ} {f g : ℕ → ℕ} {a b c : List ℕ} → Wrote o n f a b → Wrote o' m g b c → o' ≡ o + n → ((y : ℕ) → y < m → g y ≡ f (n + y)) → Wrote o (n + m) f a c
wrote_join {o} {n} {m} {o'} {f} {g} {a} {b} {c} U W e h = record {
  long = W.long ∙ U.long;
  inside = λ y l k.
      elim (dec_lt y n) [
        | yes q ↦ W.before (o + y) (omega arith) ∙ U.inside y q k
        | no q ↦
            let z : n + (y - n) ≡ y = omega arith in
            let s : o' + (y - n) ≡ o + y = omega arith in
            let r : get_or c (o' + (y - n)) 0 ≡ f (n + (y - n)) = W.inside (y - n) (omega arith) (omega (arith, U.long)) ∙ h (y - n) (omega arith) in
            rw (s, z) at r
      ];
  before = λ p l. W.before p (omega arith) ∙ U.before p l;
  after = λ p l. W.after p (omega arith) ∙ U.after p (omega arith);
}

-- the same numbers, and the same count
pub wrote_same : {o n m : ℕ} {f g : ℕ → ℕ} {old new : List ℕ} → Wrote o n f old new → n ≡ m → ((y : ℕ) → y < m → f y ≡ g y) → Wrote o m g old new
wrote_same {o} {n} {m} {f} {g} {old} {new} W e h = record {
  long = W.long;
  inside = λ y l r. W.inside y (omega arith) r ∙ h y l;
  before = W.before;
  after = λ p l. W.after p (omega arith);
}

-- what stands at a place of a run from 0 on
pub wrote_at : {n : ℕ} {f : ℕ → ℕ} {old new : List ℕ} → Wrote 0 n f old new → n ≤ length old → (y : ℕ) → y < n → get_or new y 0 ≡ f y
wrote_at {n} {f} {old} {new} W room y h = let z : 0 + y ≡ y = omega arith in rw z at (W.inside y h (omega arith))

-- ---- eight columns of n by n places
module _ (n out b : ℕ) (fits : b + 8 ≤ n) (f : ℕ → ℕ → ℕ) where
  pub spread_none : (l : List ℕ) → Spread n out b 0 f l l
  spread_none l = record {
    long = refl;
    inside = λ a x h k. absurd (omega arith);
    left = λ a c h k. refl;
    right = λ a c h k z. refl;
    before = λ p h. refl;
    after = λ p h. refl;
  }

  -- row a lies before row a'
  rows_apart : (a a' : ℕ) → a < a' → a * n + n ≤ a' * n
  rows_apart a a' h = omega (arith, mul-le-mul_right n h)

  pub spread_more : {m : ℕ} {old new last : List ℕ} {g : ℕ → ℕ} → Spread n out b m f old new → m < n → out + n * n ≤ length new → Wrote (out + m * n + b) 8 g new last → ((l : ℕ) → l < 8 → g l ≡ f m l)
      → Spread n out b (m + 1) f old last
  spread_more {m} {old} {new} {last} {g} S lt room W e = record {
    long = W.long ∙ S.long;
    inside = λ a l h k.
        elim (dec_lt a m) [
          | yes q ↦ W.before (out + a * n + (b + l)) (omega (arith, rows_apart a m q)) ∙ S.inside a l q k
          | no q ↦
              let z : a ≡ m = omega arith in
              let s : out + m * n + b + l ≡ out + m * n + (b + l) = omega arith in
              rw z (rw s at (W.inside l k (omega (arith, rows_apart m n lt)) ∙ e l k))
        ];
    left = λ a c h k.
        elim (dec_lt m a) [
          | yes q ↦ W.after (out + a * n + c) (omega (arith, rows_apart m a q)) ∙ S.left a c h k
          | no q ↦ W.before (out + a * n + c) (omega (arith, mul-le-mul_right n (let z : a ≤ m = omega arith in z))) ∙ S.left a c h k
        ];
    right = λ a c h k z.
        elim (dec_lt a m) [
          | yes q ↦ W.before (out + a * n + c) (omega (arith, rows_apart a m q)) ∙ S.right a c h k z
          | no q ↦ W.after (out + a * n + c) (omega (arith, mul-le-mul_right n (let y : m ≤ a = omega arith in y))) ∙ S.right a c h k z
        ];
    before = λ p h. W.before p (omega arith) ∙ S.before p h;
    after = λ p h. W.after p (omega (arith, rows_apart m n lt)) ∙ S.after p h;
  }
