-- `board::has_length` meets its contract: a number is w × h exactly when w divides it h times and leaves nothing.
-- Assumes nothing.
use mathlib.Core.Path.{◌≡◌, refl, sym}
use mathlib.Core.Bool.{Bool, true, false}
use Prim.Native.Nat.{ℕ, ◌*◌, ◌/◌, ◌%◌, ◌<◌}
use native.Mathlib.Nat.{zero-mul, mul-mod_right, mul-div_right, div-add-mod}
use native.Mathlib.Omega.{arith}
use borrow.Author.Rules.{rules}
use borrow.Author.Tests.{eq-eqb, ne_eqb, eqb-true, eqb-false}
use lib.Dec.{eqb}
use Rattle.board.proofs.has_length.Goals as goal

rest_none : (n w h : ℕ) → n ≡ w * h → n % w ≡ 0
rest_none n w h e = rw e (mul-mod_right w h)

times : (n w h : ℕ) → 0 < w → n % w ≡ 0 → eqb (n / w) h ≡ eqb n (w * h)
times n w h p e = go (eqb (n / w) h) refl
  where
    go : (t : Bool) → eqb (n / w) h ≡ t → t ≡ eqb n (w * h)
    go true q =
        let f : w * (n / w) ≡ n = omega (arith, div-add-mod n w) in
        sym (eq-eqb n (w * h) (sym (rw (eqb-true (n / w) h q) at f)))
    go false q = sym (ne_eqb n (w * h) (λ f. eqb-false (n / w) h q (rw f (mul-div_right h p))))

pub returns-then-w-eq0 : goal.returns-then-w-eq0
returns-then-w-eq0 c = simp (c.if-w-eq0.true, zero-mul)

pub returns-then-n-w-ne0 : goal.returns-then-n-w-ne0
returns-then-n-w-ne0 c = sym (ne_eqb _ _ (λ e. c.if-n-w-ne0.true (rest_none _ _ _ e)))

pub returns : goal.returns
returns c = times _ _ _ (search rules) c.if-n-w-ne0.false
