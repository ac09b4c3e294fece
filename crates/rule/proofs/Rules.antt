-- Laws of rules: which are allowed, next states under them, and Conway's as Life's.
-- Assumes nothing.
use mathlib.Core.Path.{◌≡◌, refl, ◌∙◌, sym, ap}
use mathlib.Core.Bool.{Bool, true, ◌&&◌}
use mathlib.Core.List.{List}
use Prim.Native.Nat.{ℕ, zero, suc, ◌+◌, ◌-◌, ◌/◌, ◌%◌, ◌^◌, ◌<◌, ◌≤◌}
use native.Mathlib.Nat.{div-eq_of_lt, zero-div, div-one, not-suc-le-zero, le_of_suc-le-suc}
use native.Mathlib.Omega.{arith}
use borrow.Author.Tests.{eqb-true, leb-true, eq-eqb, ne_eqb, le-leb, lt-leb}
use lib.Dec.{eqb, leb}
use lib.Pow.{shr-shr}
use Rattle.board.specs.Answers.{gives, passed, refuse_unless, Checked}
use Rattle.board.specs.Boards.{SizedBy}
use Rattle.board.specs.Checks.{size_check}
use Rattle.board.proofs.Answers.{unless_gives, then_gives, checked_then, checked_unless}
use Rattle.board.proofs.Checks.{sized_by, size_passes_by, size_checked}
use Rattle.board.proofs.Tests.{and_left, and_right}
use Rattle.rule.specs.Rule.{has_count, state_under, next_state, Allowed, rule_fits, rule_check, grid_check, conway_rule, digit, live_around, next_under, conway}
use Rattle.rule.specs.Theorems.{RuleCheckRight, ConwaysRule, DeadStays}
use Rattle.rule.specs.declared.Rule.{Rule}

-- ---- counts
-- a number below 2^k has no count from k on
few : (counts k n : ℕ) → counts < 2 ^ k → k ≤ n → has_count counts n ≡ 0
few counts k n l m =
    let e : n ≡ k + (n - k) = omega arith in
    let z : counts / 2 ^ n ≡ 0 =
    ap (λ (i : ℕ). counts / 2 ^ i) e ∙ sym (shr-shr counts k (n - k)) ∙ ap (λ (x : ℕ). x / 2 ^ (n - k)) (div-eq_of_lt l) ∙ zero-div (2 ^ (n - k)) in
    ap (λ (x : ℕ). x % 2) z

-- a number with no count is 0
none : (m counts : ℕ) → counts ≤ m → ((n : ℕ) → has_count counts n ≡ 0) → counts ≡ 0
none zero counts l f = omega arith
none (suc m) counts l f =
    let half : counts / 2 ≡ 0 = none m (counts / 2) (omega arith) (λ n. rw (shr-shr counts 1 n) (f (1 + n))) in
    let odd : counts / 1 % 2 ≡ 0 = f 0 in
    omega (arith, div-one counts)

-- one with no count above 8 is at most 511
at_most_511 : (counts : ℕ) → ((n : ℕ) → 8 < n → has_count counts n ≡ 0) → counts ≤ 511
at_most_511 counts f =
    let z : counts / 512 ≡ 0 = none (counts / 512) (counts / 512) (omega arith) (λ n. rw (shr-shr counts 9 n) (f (9 + n) (omega arith))) in
    omega arith

-- ---- the check
module _ (rule : Rule) where
  pub fits_allowed : rule_fits rule ≡ true → Allowed rule
  fits_allowed e =
      let even = eqb (rule.births % 2) 0 in
      let b = leb rule.births 511 in
      let s = leb rule.survivals 511 in
      let first = and_left (even && b) s e in
      let p = eqb-true (rule.births % 2) 0 (and_left even b first) in
      let q = leb-true rule.births 511 (and_right even b first) in
      let r = leb-true rule.survivals 511 (and_right (even && b) s e) in
      record {
        none_born_on_0 = rw (div-one rule.births) p;
        births_to_8 = λ n l. few rule.births 9 n (omega arith) l;
        survivals_to_8 = λ n l. few rule.survivals 9 n (omega arith) l;
      }

  pub allowed_fits : Allowed rule → rule_fits rule ≡ true
  allowed_fits a =
      let p : rule.births % 2 ≡ 0 = rw (div-one rule.births) at a.none_born_on_0 in
      rw (eq-eqb (rule.births % 2) 0 p, le-leb rule.births 511 (at_most_511 _ a.births_to_8), le-leb rule.survivals 511 (at_most_511 _ a.survivals_to_8))

  pub rule_allowed : {vs : List ℕ} → rule_check rule ≡ gives vs → Allowed rule
  unfolding rule_check
  rule_allowed e = fits_allowed (unless_gives (rule_fits rule) 13 e)

  pub rule_passes : Allowed rule → rule_check rule ≡ passed
  unfolding rule_check
  rule_passes a = rw (allowed_fits a)

  -- 1, 2, 13
  module _ (halves : Bool) where
    pub grid_allowed : (w h : ℕ) {vs : List ℕ} → grid_check halves rule w h ≡ gives vs → SizedBy halves w h × Allowed rule
    unfolding grid_check
    grid_allowed w h e = let p = then_gives (size_check halves w h) (rule_check rule) e in (sized_by halves w h p.0.1, rule_allowed p.1)

    pub grid_passes : {w h : ℕ} → SizedBy halves w h → Allowed rule → grid_check halves rule w h ≡ passed
    unfolding grid_check
    grid_passes s a = rw (size_passes_by halves s) (rule_passes a)

    pub grid_checked : (n w h : ℕ) → (1 ≡ n → ⊥) → (2 ≡ n → ⊥) → (13 ≡ n → ⊥) → Checked n (grid_check halves rule w h)
    unfolding grid_check rule_check
    grid_checked n w h p q r =
        checked_then n (size_check halves w h) (refuse_unless (rule_fits rule) 13) (size_checked halves n w h p q) (checked_unless n (rule_fits rule) 13 r)

  -- ---- next states
  -- pattern 0 is a dead cell with no live neighbour
  pub dead_stays : Allowed rule → next_under rule 0 ≡ 0
  unfolding next_under
  dead_stays a = a.none_born_on_0

pub rule_check_right : RuleCheckRight
rule_check_right rule = (rule_allowed rule, rule_passes rule)

pub dead_exactly : DeadStays
unfolding next_under
dead_exactly rule = ((λ e. e, λ e. e), dead_stays rule)

-- ---- Conway's
crowded : (centre live : ℕ) → 3 < live → next_state centre live ≡ 0
crowded centre live l = simp (lt-leb live 1 (omega arith), ne_eqb live 2 (λ e. omega arith), ne_eqb live 3 (λ e. omega arith))

-- counts with 3 among them, and 2 for a live cell alone
three_and : (counts centre : ℕ) → counts < 16 → has_count counts 0 ≡ 0 → has_count counts 1 ≡ 0 → has_count counts 2 ≡ centre → has_count counts 3 ≡ 1
    → (live : ℕ) → has_count counts live ≡ next_state centre live
three_and counts centre l p q r s zero = p
three_and counts centre l p q r s (suc zero) = q
three_and counts centre l p q r s (suc (suc zero)) = r
three_and counts centre l p q r s (suc (suc (suc zero))) = s
three_and counts centre l p q r s (suc (suc (suc (suc n)))) =
    few counts 4 _ l (omega arith) ∙ sym (crowded centre (suc (suc (suc (suc n)))) (omega arith))

pub conway_state : (centre live : ℕ) → centre ≤ 1 → state_under conway_rule centre live ≡ next_state centre live
conway_state zero live l = three_and 8 0 (omega arith) refl refl refl refl live
conway_state (suc zero) live l = three_and 12 1 (omega arith) refl refl refl refl live
conway_state (suc (suc c)) live l = absurd (not-suc-le-zero (le_of_suc-le-suc l))

pub conway_pattern : (p : ℕ) → next_under conway_rule p ≡ conway p
unfolding next_under conway
conway_pattern p = conway_state (digit p 16) (live_around p) (omega arith)

pub conway_allowed : Allowed conway_rule
conway_allowed = fits_allowed conway_rule refl

pub conways_rule : ConwaysRule
conways_rule = record { allowed = conway_allowed; state = conway_state; pattern = conway_pattern }
