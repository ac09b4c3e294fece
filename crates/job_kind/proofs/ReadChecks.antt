-- What the checks of what is lent to be read answer, and what they show where they pass.
-- Assumes nothing.
use mathlib.Core.Path.{◌≡◌, refl}
use mathlib.Core.Bool.{Bool, true, false, cond}
use mathlib.Core.List.{List}
use Prim.Native.Nat.{ℕ}
use native.Mathlib.Omega.{arith}
use Rattle.board.specs.Answers.{Answer, gives, passed, ◌then◌, Checked}
use Rattle.board.specs.Boards.{Bytes}
use Rattle.board.specs.Checks.{givens_check, target_check}
use Rattle.board.proofs.Answers.{then_gives, checked_then, checked_passed}
use Rattle.board.proofs.Checks.{marks_of_lem, marks_checked}
use Rattle.rule.specs.declared.Rule.{Rule}
use Rattle.edges.specs.Edges.{edge_check}
use Rattle.edges.proofs.Theorems.{edge_checked}
use Rattle.mirror.specs.Mirror.{lopsided_check}
use Rattle.mirror.proofs.Theorems.{lopsided_checked}
use Rattle.job_kind.specs.Kinds.{halves_of, has_target, mirror_check, read_check}
use Rattle.job_kind.specs.declared.Kind.{Kind}

module _ (kind : Kind) (rule : Rule) (w h : ℕ) (givens : List ℕ) where
  -- the checks of givens after 3, 4
  abbrev later_checks : Answer
  later_checks = edge_check rule w h givens then mirror_check kind w h givens

  pub read_marks : {values : List ℕ} → read_check kind rule w h givens ≡ gives values → Bytes (cond (has_target kind) 1 2) w h givens
  unfolding read_check
  read_marks {values} e = go (has_target kind) e
    where
      go : (t : Bool) → cond t (target_check w h givens) (givens_check w h givens then later_checks) ≡ gives values → Bytes (cond t 1 2) w h givens
      go true e = marks_of_lem 1 w h givens e
      go false e = marks_of_lem 2 w h givens (then_gives (givens_check w h givens) later_checks e).0.1

  mirror_checked : (n : ℕ) → (15 ≡ n → ⊥) → Checked n (mirror_check kind w h givens)
  mirror_checked n p = go (halves_of kind)
    where
      go : (b : Bool) → Checked n (cond b (lopsided_check w h givens) passed)
      go true = lopsided_checked n w h givens p
      go false = refl

  -- they answer 3, 4, 15 and what the check of edge threes does
  pub read_checked : (n : ℕ) → (3 ≡ n → ⊥) → (4 ≡ n → ⊥) → (15 ≡ n → ⊥) → Checked n (edge_check rule w h givens) → Checked n (read_check kind rule w h givens)
  unfolding read_check
  read_checked n p q r e = go (has_target kind)
    where
      go : (t : Bool) → Checked n (cond t (target_check w h givens) (givens_check w h givens then later_checks))
      go true = marks_checked 1 w h givens n p q
      go false =
          checked_then n (givens_check w h givens) later_checks (marks_checked 2 w h givens n p q)
          (checked_then n (edge_check rule w h givens) (mirror_check kind w h givens) e (mirror_checked n r))

  -- and where they pass they give nothing; 0 is no refusal's number
  pub read_passed : {values : List ℕ} → read_check kind rule w h givens ≡ gives values → read_check kind rule w h givens ≡ passed
  read_passed e =
      checked_passed 0 (read_check kind rule w h givens)
      (read_checked 0 (λ z. omega arith) (λ z. omega arith) (λ z. omega arith) (edge_checked 0 rule w h givens (λ z. omega arith))) e
