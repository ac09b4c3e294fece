-- Which numbers resuming takes and which jobs pausing and working take, as facts; and that the job resumed is the one paused.
-- Assumes nothing.
use mathlib.Core.Path.{◌≡◌, refl, sym, ◌∙◌, ap, ap₂}
use mathlib.Core.Bool.{Bool, true, false, ◌&&◌}
use mathlib.Core.List.{List, []}
use Rattle.std.specs.Prelude.{Result, Ok, Err}
use Prim.Native.Nat.{ℕ}
use native.Mathlib.Omega.{arith}
use borrow.Author.Tests.{not-true, eq-eqb, eqb-true, le-leb, leb-true}
use lib.Dec.{eqb, leb}
use lib.ListN.{get_or}
use lib.Pow.{pow_pos}
use Rattle.board.specs.Answers.{Answer, gives, passed, refuses, refuse_unless, ◌then◌}
use Rattle.board.specs.Boards.{max_height, among, width_fits, is_width, SizedBy}
use Rattle.board.specs.declared.Refusal.{Refusal}
use Rattle.board.proofs.Answers.{refuses_none, then_gives, unless_gives}
use Rattle.board.proofs.Widths.{width_of, width_fits_lem}
use Rattle.board.proofs.Tests.{and_left, and_right, and_true, among_yes, among_in}
use Rattle.elimination.specs.Task.{is_fill}
use Rattle.elimination.specs.Shape.{numbers_fit}
use Rattle.elimination.proofs.Shape.{NumbersAre, numbers_start}
use Rattle.elimination.proofs.Shape as Shapes
use Rattle.rule.specs.Rule.{Allowed, rule_fits, grid_check}
use Rattle.rule.specs.declared.Rule.{Rule}
use Rattle.rule.proofs.Rules.{fits_allowed, allowed_fits, grid_allowed, grid_passes}
use Rattle.job_kind.specs.Kinds.{kind_number, halves_of, kind_digits, shape_of, read_check}
use Rattle.job.specs.Jobs.{rule_of, numbers_in, checkpoint_fits, numbers_of, checkpoint_says, job_says, stage_fits, job_fits, stage_of, start, job_of, open_rule, pause_rule, resume_rule, paused_says, job_result_says}
use Rattle.job.specs.Calls.{RoundTrip, Pausable}
use Rattle.job_kind.specs.declared.Kind.{Kind}
use Rattle.job.specs.declared.Stage.{Stage}
use Rattle.job.specs.declared.Job.{Job}
use Rattle.job.specs.declared.Checkpoint.{Checkpoint}
use Rattle.job_kind.proofs.Shapes.{number_tells, shape_lawful, shorter, fills_first}
use Rattle.job_kind.proofs.ReadChecks.{read_passed}

-- ---- the ten numbers
-- a size and a rule that opening as a kind takes
pub record Frame (kind : Kind) (rule : Rule) (w h : ℕ) : Type 0 where
  pub size : SizedBy (halves_of kind) w h
  pub allowed : Allowed rule

pub frame_fits : {kind : Kind} {rule : Rule} {w h : ℕ} → Frame kind rule w h → is_width (halves_of kind) w && among max_height h && rule_fits rule ≡ true
frame_fits {kind} {rule} {w} {h} z =
    rw (and_true (le-leb 1 w z.size.some_column) (width_fits_lem (halves_of kind) w z.size.width), among_yes max_height h z.size.some_row z.size.low) (allowed_fits rule z.allowed)

-- the checks of a size and a rule pass exactly where there is such a size and rule
pub frame_of : (kind : Kind) (rule : Rule) (w h : ℕ) {vs : List ℕ} → grid_check (halves_of kind) rule w h ≡ gives vs → Frame kind rule w h
frame_of kind rule w h e = let p = grid_allowed rule (halves_of kind) w h e in record { size = p.0; allowed = p.1 }

pub frame_passes : {kind : Kind} {rule : Rule} {w h : ℕ} → Frame kind rule w h → grid_check (halves_of kind) rule w h ≡ passed
frame_passes {kind} {rule} z = grid_passes rule (halves_of kind) z.size z.allowed

-- what opening takes has a size and a rule, and passes the checks of what is read
pub opening_shows : (kind : Kind) (rule : Rule) (w h : ℕ) (givens : List ℕ) {values : List ℕ} → open_rule kind rule w h givens ≡ gives values
    → Frame kind rule w h × (read_check kind rule w h givens ≡ passed)
unfolding open_rule
opening_shows kind rule w h givens e =
    let p = then_gives (grid_check (halves_of kind) rule w h) (read_check kind rule w h givens then gives (job_says (start kind rule w h))) e in
    let q = then_gives (read_check kind rule w h givens) (gives (job_says (start kind rule w h))) p.1 in
    (frame_of kind rule w h p.0.1, read_passed kind rule w h givens q.0.1)

pub record NumbersFit (kind : Kind) (t : Checkpoint) : Type 0 where
  pub of : t.kind ≡ kind_number kind
  pub frame : Frame kind (rule_of t) t.width t.height
  pub fit : numbers_fit (shape_of kind t.width t.height) (numbers_in t) ≡ true
  pub are : NumbersAre (shape_of kind t.width t.height) (numbers_in t)

pub numbers_of_lem : (kind : Kind) (t : Checkpoint) → t.kind ≡ kind_number kind → Frame kind (rule_of t) t.width t.height
    → numbers_fit (shape_of kind t.width t.height) (numbers_in t) ≡ true → checkpoint_fits kind t ≡ true
unfolding checkpoint_fits
numbers_of_lem kind t k z e = and_true (eq-eqb t.kind (kind_number kind) k) (and_true (frame_fits z) e)

pub numbers_at : (kind : Kind) (t : Checkpoint) → checkpoint_fits kind t ≡ true → NumbersFit kind t
unfolding checkpoint_fits
numbers_at kind t all =
    let k = eqb t.kind (kind_number kind) in
    let a = is_width (halves_of kind) t.width in
    let b = among max_height t.height in
    let q = rule_fits (rule_of t) in
    let n = numbers_fit (shape_of kind t.width t.height) (numbers_in t) in
    let e = and_right k (a && b && q && n) all in
    let p3 = and_left (a && b && q) n e in
    let p2 = and_left (a && b) q p3 in
    let wide = and_left a b p2 in
    let tall = among_in max_height t.height (and_right a b p2) in
    let f = and_right (a && b && q) n e in record {
      of = eqb-true t.kind (kind_number kind) (and_left k (a && b && q && n) all);
      frame = record {
        size = record {
          some_column = leb-true 1 t.width (and_left (leb 1 t.width) (width_fits (halves_of kind) t.width) wide);
          width = width_of (halves_of kind) t.width (and_right (leb 1 t.width) (width_fits (halves_of kind) t.width) wide);
          some_row = tall.0;
          low = tall.1;
        };
        allowed = fits_allowed (rule_of t) (and_right (a && b) q p3);
      };
      fit = f;
      are = Shapes.numbers_at (shape_of kind t.width t.height) (numbers_in t) f;
    }

-- ---- a job: its numbers fit, and its stage
abbrev pub job_at : Kind → Rule → ℕ → ℕ → ℕ → Stage → Job
job_at kind rule w h u s = record { kind = kind; rule = rule; width = w; height = h; units = u; stage = s }

pub fits_numbers : (j : Job) → job_fits j ≡ true → checkpoint_fits j.kind (numbers_of j) ≡ true
unfolding job_fits
fits_numbers j e = and_left (checkpoint_fits j.kind (numbers_of j)) (stage_fits (shape_of j.kind j.width j.height) j.units j.stage) e

pub fits_stage : (j : Job) → job_fits j ≡ true → stage_fits (shape_of j.kind j.width j.height) j.units j.stage ≡ true
unfolding job_fits
fits_stage j e = and_right (checkpoint_fits j.kind (numbers_of j)) (stage_fits (shape_of j.kind j.width j.height) j.units j.stage) e

-- it has a size and a rule
pub fits_frame : (j : Job) → job_fits j ≡ true → Frame j.kind j.rule j.width j.height
fits_frame j e = (numbers_at j.kind (numbers_of j) (fits_numbers j e)).frame

-- an opened job fits
pub start_fits : (kind : Kind) {rule : Rule} {w h : ℕ} → Frame kind rule w h → job_fits (start kind rule w h) ≡ true
unfolding job_fits
start_fits kind {rule} {w} {h} z =
    let high = z.size.some_row in
    and_true
    (numbers_of_lem kind (numbers_of (start kind rule w h)) refl z
    (numbers_start (shape_of kind w h) (shape_lawful w h kind high) (pow_pos (kind_digits kind w)) (omega (arith, shorter kind w h high))))
    (fills_first kind w h high)

-- ---- pausing and resuming
stage_back : (kind : Kind) (rule : Rule) (w h u : ℕ) (s : Stage) → stage_fits (shape_of kind w h) u s ≡ true → stage_of kind (numbers_of (job_at kind rule w h u s)) ≡ s
unfolding stage_of
stage_back kind rule w h u (Stage.Filling above last live) e = rw e
stage_back kind rule w h u (Stage.Choosing above last live) e = rw (not-true (is_fill ((shape_of kind w h).plan u)) e)
stage_back kind rule w h u (Stage.Finished above last score) e = refl
stage_back kind rule w h u Stage.Infeasible e = refl

pub job_back : (j : Job) → job_fits j ≡ true → job_of j.kind (numbers_of j) ≡ j
job_back j e =
    ap (job_at j.kind j.rule j.width j.height j.units)
    (stage_back j.kind j.rule j.width j.height j.units j.stage (fits_stage j e))

pub pausable : (j : Job) → job_fits j ≡ true → Pausable j
unfolding pause_rule resume_rule
pausable j e = record { taken = e; pauses = rw e; resumes = rw (fits_numbers j e); back = job_back j e }

-- a job's numbers are of its kind alone
pub of_kind : (kind : Kind) (j : Job) → checkpoint_fits kind (numbers_of j) ≡ true → kind ≡ j.kind
of_kind kind j e = number_tells kind j.kind (sym (numbers_at kind (numbers_of j) e).of)

-- the ten numbers of what is said
abbrev pub heard : List ℕ → Checkpoint
heard l = record {
  width = get_or l 0 0;
  height = get_or l 1 0;
  units = get_or l 2 0;
  above = get_or l 3 0;
  last = get_or l 4 0;
  live = get_or l 5 0;
  mark = get_or l 6 0;
  births = get_or l 7 0;
  survivals = get_or l 8 0;
  kind = get_or l 9 0;
}

abbrev given : Answer → List ℕ
given (gives values) = values
given (refuses n values) = values

-- numbers that pausing gives are the job's
pub paused_numbers : (j : Job) (t : Checkpoint) → pause_rule j ≡ gives (checkpoint_says t) → (job_fits j ≡ true) × (t ≡ numbers_of j)
unfolding pause_rule
paused_numbers j t e =
    let p = then_gives (refuse_unless (job_fits j) 7) (gives (job_says j)) e in
    (unless_gives (job_fits j) 7 p.0.1, ap (λ (a : Answer). heard (given a)) (sym p.1))

pub round_trip : RoundTrip
unfolding RoundTrip resume_rule
round_trip j p t kind r P e R = (λ (k : kind ≡ j.kind). same k r R.says R.job, λ n. other n (checkpoint_fits kind t) refl)
  where
    q : (job_fits j ≡ true) × (t ≡ numbers_of j)
    q = paused_numbers j t (sym P.says ∙ ap paused_says e)

    same : kind ≡ j.kind → (r : Result Job Refusal) → job_result_says r ≡ resume_rule kind t → ((i : Job) → r ≡ Ok i → i ≡ job_of kind t) → r ≡ Ok j
    same k (Ok i) s f = ap Ok (f i refl ∙ ap₂ job_of k q.1 ∙ job_back j q.0)
    same k (Err x) s f =
        let fits : checkpoint_fits kind t ≡ true = rw (k, q.1) (fits_numbers j q.0) in
        absurd (refuses_none (rw fits at s))

    other : (kind ≡ j.kind → ⊥) → (b : Bool) → checkpoint_fits kind t ≡ b → job_result_says r ≡ refuses 7 []
    other n true f = absurd (n (of_kind kind j (rw q.1 at f)))
    other n false f = R.says ∙ rw f
