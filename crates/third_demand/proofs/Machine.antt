-- A grid's job is a machine of row elimination: its numbers are its shape's, so they go on fitting, and its units are the machine's.
-- Assumes nothing.
use mathlib.Core.Path.{◌≡◌, refl, ◌∙◌, ap₂}
use mathlib.Core.List.{List}
use Prim.Native.Nat.{ℕ, suc, ◌*◌, ◌-◌}
use native.Mathlib.Omega.{arith}
use Rattle.elimination.specs.Job as Elimination
use Rattle.rule.specs.declared.Rule.{Rule}
use Rattle.job_kind.specs.Kinds.{has_target, shape_of}
use Rattle.job_kind.specs.declared.Kind.{Kind}
use Rattle.job_kind.proofs.Shapes.{shape_lawful}
use Rattle.job.proofs.Fits.{Frame}
use Rattle.score_table.specs.Rows.{marks_of, row_for}
use Rattle.score_table.proofs.Marks.{row_worth_le}
use Rattle.service.specs.Laws.{Follows}
use Rattle.service.specs.Units.{unit_by, Numbered}
use Rattle.service.proofs.Numbers.{continues}
use Rattle.service.proofs.Units as Shared
use Rattle.third_demand.specs.Units.{lent_check, State, want_by, setup_of, unit_of, grid}
use Rattle.third_demand.specs.Demand.{Of}

module _ (kind : Kind) {rule : Rule} {w h : ℕ} (z : Frame kind rule w h) (g : List ℕ) where
  pub numbered : Numbered (setup_of kind rule w h g) (shape_of kind w h) (Of kind rule w h)
  numbered = record {
    shaped = shape_lawful w h kind z.size.some_row;
    plans = refl;
    rows = refl;
    codes = refl;
    is = λ j O. rw (O.kept, O.wide, O.tall);
    earns = λ k c n. omega (arith, row_worth_le w (marks_of (has_target kind) g) ((h - suc k) * w) (row_for (want_by kind) w c));
    same = λ j t O a b c d. record { kept = O.kept; ruled = ap₂ (λ (x y : ℕ). record { births = x; survivals = y }) c d ∙ O.ruled; wide = a ∙ O.wide; tall = b ∙ O.tall };
  }

  pub unit_same : (s : State) → Of kind rule w h s.job → unit_of g s ≡ unit_by (setup_of kind rule w h g) s
  unfolding unit_of
  unit_same s O = rw (O.kept, O.ruled, O.wide, O.tall)

-- ---- and the job follows the machine
abbrev pub follows : (kind : Kind) {rule : Rule} {w h : ℕ} → Frame kind rule w h → (g : List ℕ) → Follows grid g (Elimination.machine (setup_of kind rule w h g))
follows kind {rule} {w} {h} z g =
    Shared.follows (List ℕ) lent_check unit_of g (setup_of kind rule w h g) (Of kind rule w h)
    (continues (setup_of kind rule w h g) (shape_of kind w h) (Of kind rule w h) (numbered kind z g)) (unit_same kind z g)
