-- What the tests of ten numbers show one after the other, and that the job of ten numbers that fit has those numbers.
-- Assumes nothing.
use mathlib.Core.Path.{◌≡◌, refl, sym, ◌∙◌, ap}
use Rattle.std.specs.Prelude.{Result, Ok, Err, is_err}
use mathlib.Core.Bool.{Bool, true, false, not, ◌&&◌, true≢false}
use mathlib.Core.List.{List}
use Prim.Native.Nat.{ℕ, ◌+◌, ◌*◌, ◌/◌, ◌^◌, ◌≤◌, ◌<◌}
use native.Mathlib.Nat.{div-eq_of_lt, lt-div-mul-add}
use native.Mathlib.Omega.{arith}
use native.Mathlib.Decide.{dec_lt}
use lib.Pow.{pow_pos}
use Rattle.board.proofs.Tests.{and_true}
use Rattle.board.specs.Answers.{refuses, refuse_unless, ◌then◌, check_says}
use Rattle.board.specs.declared.Refusal.{Refusal}
use Rattle.board.specs.Boards.{max_height, among, is_width}
use Rattle.board.specs.Checks.{size_check}
use Rattle.elimination.specs.Task.{is_fill}
use Rattle.elimination.specs.Shape.{Shape, rows_chosen}
use Rattle.elimination.proofs.Shape.{Rows, Units, runs, ends, fails}
use Rattle.elimination.proofs.Rounds.{chosen_most}
use Rattle.rule.specs.Rule.{rule_fits, rule_check, grid_check}
use Rattle.rule.specs.declared.Rule.{Rule}
use Rattle.job_kind.specs.Kinds.{halves_of, shape_of}
use Rattle.job.specs.Jobs.{checkpoint_fits, numbers_of, stage_fits, job_fits, stage_of, job_of, job_says, checkpoint_says}
use Rattle.job_kind.specs.declared.Kind.{Kind}
use Rattle.job.specs.declared.Checkpoint.{Checkpoint}
use Rattle.job_kind.proofs.Shapes.{shape_lawful, shape_rounds}
use Rattle.job.proofs.Fits.{Frame, NumbersFit, frame_of, numbers_at, heard}

-- ---- the size and the rule
frame_misfits : (kind : Kind) (rule : Rule) (w h : ℕ) {n : ℕ} {vs : List ℕ} → grid_check (halves_of kind) rule w h ≡ refuses n vs → is_width (halves_of kind) w && among max_height h && rule_fits rule ≡ false
unfolding grid_check size_check rule_check
frame_misfits kind rule w h {n} {vs} e = go (is_width (halves_of kind) w) (among max_height h) (rule_fits rule) e
  where
    go : (s t u : Bool) → ((refuse_unless s 1 then refuse_unless t 2) then refuse_unless u 13) ≡ refuses n vs → s && t && u ≡ false
    go true true true q = absurd (let z : ◌≡◌ {A = ℕ} 0 1 = cc in omega arith)
    go true true false q = refl
    go true false u q = refl
    go false t u q = refl

-- the check of both, by whether it is an error
pub turned_misfits : (kind : Kind) (rule : Rule) (w h : ℕ) (k : Result Unit Refusal) → check_says k ≡ grid_check (halves_of kind) rule w h → is_err k ≡ true
    → is_width (halves_of kind) w && among max_height h && rule_fits rule ≡ false
turned_misfits kind rule w h (Ok u) e t = absurd (true≢false (sym t))
turned_misfits kind rule w h (Err r) e t = frame_misfits kind rule w h (sym e)

pub passed_frame : (kind : Kind) (rule : Rule) (w h : ℕ) (k : Result Unit Refusal) → check_says k ≡ grid_check (halves_of kind) rule w h → is_err k ≡ false
    → Frame kind rule w h
passed_frame kind rule w h (Ok u) e t = frame_of kind rule w h (sym e)
passed_frame kind rule w h (Err r) e t = absurd (true≢false t)

-- ---- the rows
-- a shift by the width leaves nothing of a row, and something of any greater number
pub shift_none : (x w : ℕ) → x / 2 ^ w ≡ 0 → x < 2 ^ w
shift_none x w e = let l : x < x / 2 ^ w * 2 ^ w + 2 ^ w = lt-div-mul-add (pow_pos w) in omega (arith, rw e at l)

pub shift_some : (x w : ℕ) → (x / 2 ^ w ≡ 0 → ⊥) → 2 ^ w ≤ x
shift_some x w n = elim (dec_lt x (2 ^ w)) [ yes l ↦ absurd (n (div-eq_of_lt l)) | no l ↦ omega arith ]

-- at most h rows are chosen where the units fit
pub chosen_le : (kind : Kind) (w h units mark : ℕ) → 0 < h → Units (shape_of kind w h) units mark → rows_chosen (shape_of kind w h) units mark ≤ h
unfolding rows_chosen
chosen_le kind w h units mark high (runs l) = chosen_most (shape_rounds w h kind) (shape_lawful w h kind high) (omega arith)
chosen_le kind w h units mark high (ends q) = chosen_most (shape_rounds w h kind) (shape_lawful w h kind high) (omega arith)
chosen_le kind w h units mark high (fails q) = omega arith

-- ---- the job of ten numbers
-- with no row chosen the two rows and the live cells are 0
record NoRows (above last live : ℕ) : Type 0 where
  over : above ≡ 0
  below : last ≡ 0
  few : live ≡ 0

no_rows : {most k above last live : ℕ} → Rows most k above last live → k ≡ 0 → NoRows above last live
no_rows {most} {k} {above} {last} {live} r e =
    let l : live ≤ most * 0 = rw e at r.few in record { over = r.one (omega arith); below = r.none e; few = omega arith }

-- it has those numbers
pub numbers_back : (kind : Kind) (t : Checkpoint) → checkpoint_fits kind t ≡ true → job_says (job_of kind t) ≡ checkpoint_says t
unfolding stage_of rows_chosen
numbers_back kind t e = go t.mark F.are.units refl
  where
    F : NumbersFit kind t
    F = numbers_at kind t e

    S : Shape
    S = shape_of kind t.width t.height

    running : t.mark ≡ 0 → (b : Bool) → is_fill ((shape_of kind t.width t.height).plan t.units) ≡ b → job_says (job_of kind t) ≡ checkpoint_says t
    running m true r = rw (m, r, F.of)
    running m false r = rw (m, r, F.of)

    go : (mark : ℕ) → Units S t.units mark → t.mark ≡ mark → job_says (job_of kind t) ≡ checkpoint_says t
    go mark (runs l) m = running m (is_fill ((shape_of kind t.width t.height).plan t.units)) refl
    go mark (ends q) m = rw (m, F.of)
    go mark (fails q) m = let n = no_rows F.are.rows (rw m) in rw (m, n.over, n.below, n.few, F.of)

pub numbers_of_job : (kind : Kind) (t : Checkpoint) → checkpoint_fits kind t ≡ true → numbers_of (job_of kind t) ≡ t
numbers_of_job kind t e = ap heard (numbers_back kind t e)

-- and it fits
pub resumed_fits : (kind : Kind) (t : Checkpoint) → checkpoint_fits kind t ≡ true → job_fits (job_of kind t) ≡ true
unfolding job_fits stage_of
resumed_fits kind t e = and_true (ap (checkpoint_fits kind) (numbers_of_job kind t e) ∙ e) (go t.mark (numbers_at kind t e).are.units refl)
  where
    fits : Type 0
    fits = stage_fits (shape_of kind t.width t.height) t.units (job_of kind t).stage ≡ true

    running : t.mark ≡ 0 → (b : Bool) → is_fill ((shape_of kind t.width t.height).plan t.units) ≡ b → fits
    running m true r = rw (m, r) r
    running m false r = rw (m, r) (ap not r)

    go : (mark : ℕ) → Units (shape_of kind t.width t.height) t.units mark → t.mark ≡ mark → fits
    go mark (runs l) m = running m (is_fill ((shape_of kind t.width t.height).plan t.units)) refl
    go mark (ends q) m = rw m
    go mark (fails q) m = rw m
