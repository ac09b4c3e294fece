-- Laws of answers: what a refused check leaves to say, what an answer that gives something tells of the checks before it, and checks that never
-- answer a number.
-- Assumes nothing.
use mathlib.Core.Path.{◌≡◌, refl, ◌∙◌, sym, ap}
use mathlib.Core.Bool.{Bool, true, false}
use Rattle.std.specs.Prelude.{Option, None, Some, Result, Ok, Err}
use mathlib.Core.List.{List, [], ◌∷◌}
use Prim.Native.Nat.{ℕ}
use native.Mathlib.Omega.{arith}
use Rattle.board.specs.Answers.{Answer, gives, refuses, refusal_says, check_says, passed, ◌then◌, refuse_unless, refuse_at, Checked, after}
use Rattle.board.specs.declared.Refusal.{Refusal}

-- a refusal gives nothing
pub refuses_none : {n : ℕ} {us vs : List ℕ} → refuses n us ≡ gives vs → ⊥
refuses_none e = let z : ◌≡◌ {A = ℕ} 0 1 = cc in omega arith

-- checks in a row give something only where the first refuses nothing and the rest gives it
pub then_gives : (a b : Answer) {vs : List ℕ} → (a then b) ≡ gives vs → ((us : List ℕ) × (a ≡ gives us)) × (b ≡ gives vs)
then_gives (gives us) b e = ((us, refl), e)
then_gives (refuses n us) b e = absurd (refuses_none e)

pub unless_gives : (t : Bool) (n : ℕ) {vs : List ℕ} → refuse_unless t n ≡ gives vs → t ≡ true
unless_gives true n e = refl
unless_gives false n e = absurd (refuses_none e)

pub at_gives : (o : Option ℕ) (n : ℕ) {vs : List ℕ} → refuse_at o n ≡ gives vs → o ≡ None
at_gives None n e = refl
at_gives (Some i) n e = absurd (refuses_none e)

-- refused with a place, it is that place
pub at_refuses : (o : Option ℕ) (n p : ℕ) → refuse_at o n ≡ refuses n (p ∷ []) → o ≡ Some p
at_refuses None n p e = absurd (refuses_none (sym e))
at_refuses (Some q) n p e = let z : q ≡ p = cc in ap Some z

-- what a refused call leaves in a buffer
pub refused_keeps : {a : Answer} (r : Refusal) → refusal_says r ≡ a → (written held : List ℕ) → held ≡ after a written held
refused_keeps r e written held = rw (← e)

-- a check that says a
module _ {k : Result Unit Refusal} {a : Answer} (told : check_says k ≡ a) where
  -- refused, it decides
  pub turned_away_lem : {r : Refusal} → k ≡ Err r → (rest : Answer) → refusal_says r ≡ (a then rest)
  turned_away_lem {r} e rest = sym (ap (λ (b : Answer). b then rest) (sym told ∙ ap check_says e))

  -- passed, it leaves the rest to decide
  pub let_through : {u : Unit} → k ≡ Ok u → a ≡ passed
  let_through e = sym told ∙ ap check_says e

  pub passed_on : {u : Unit} → k ≡ Ok u → {b rest : Answer} → b ≡ rest → b ≡ (a then rest)
  passed_on e q = rw (let_through e) q

-- ---- checks that never answer n
module _ (n : ℕ) where
  pub checked_then : (a b : Answer) → Checked n a → Checked n b → Checked n (a then b)
  checked_then (gives values) b p q = q
  checked_then (refuses m values) b p q = p

  pub checked_unless : (t : Bool) (m : ℕ) → (m ≡ n → ⊥) → Checked n (refuse_unless t m)
  checked_unless true m f = refl
  checked_unless false m f = f

  pub checked_at : (o : Option ℕ) (m : ℕ) → (m ≡ n → ⊥) → Checked n (refuse_at o m)
  checked_at None m f = refl
  checked_at (Some i) m f = f

  -- they give no values
  pub checked_passed : (a : Answer) → Checked n a → {values : List ℕ} → a ≡ gives values → a ≡ passed
  checked_passed (gives us) p e = ap gives p
  checked_passed (refuses m us) p e = absurd (refuses_none e)

  -- they never answer n: where it is answered, what follows answers it
  pub checked_not : (a : Answer) → Checked n a → {values : List ℕ} → a ≡ refuses n values → ⊥
  checked_not (gives us) p e = refuses_none (sym e)
  checked_not (refuses m us) p e = p (let z : m ≡ n = cc in z)

  pub past_check : (a : Answer) → Checked n a → {rest : Answer} {values : List ℕ} → (a then rest) ≡ refuses n values → rest ≡ refuses n values
  past_check (gives us) p e = e
  past_check (refuses m us) p e = absurd (checked_not (refuses m us) p e)
