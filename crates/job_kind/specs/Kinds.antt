-- Document 01, "A job and its units", Req 02, Req 05, Req 06 and Req 08: the kinds of job, each with its number, how it holds rows, its table, its plan and
-- length; and the checks of what is lent to be read, by the kind.
-- Assumes nothing.
use Rattle.std.specs.Prelude.{◌≡◌, Bool, true, false, cond, List, ℕ, ◌+◌, ◌*◌, ◌-◌, ◌/◌, ◌^◌, ◌≤◌, ◌<◌, eqb, Option, None, Some, Result, MatchResult}
use Rattle.board.specs.Answers.{Answer, passed, ◌then◌}
use Rattle.board.specs.Boards.{row_digits}
use Rattle.board.specs.Checks.{givens_check, target_check, table_size}
use Rattle.edges.specs.Edges.{edge_check}
use Rattle.mirror.specs.Mirror.{lopsided_check}
use Rattle.elimination.specs.Task as Elimination
use Rattle.elimination.specs.Plan.{Schedule}
use Rattle.elimination.specs.FillThenChoose as Whole
use Rattle.elimination.specs.TwoLayers as Two
use Rattle.elimination.specs.Shape.{Shape, chosen_from, entries_filled}
use Rattle.rule.specs.declared.Rule.{Rule}
use Rattle.job_kind.specs.declared.Kind.{Kind}
use Rattle.job_kind.specs.declared.UnknownKind.{UnknownKind}

-- the kind's number: ordinary 0, two layers only 1, mirror boards 2, predecessors of a target 3
abbrev pub kind_number : Kind → ℕ
kind_number Kind.Ordinary = 0
kind_number Kind.TwoLayers = 1
kind_number Kind.Mirror = 2
kind_number Kind.Predecessor = 3

-- the kind with a number
abbrev pub kind_at : ℕ → Option Kind
kind_at n =
    cond (eqb n (kind_number Kind.Ordinary)) (Some Kind.Ordinary)
    (cond (eqb n (kind_number Kind.TwoLayers)) (Some Kind.TwoLayers)
    (cond (eqb n (kind_number Kind.Mirror)) (Some Kind.Mirror) (cond (eqb n (kind_number Kind.Predecessor)) (Some Kind.Predecessor) None)))

-- the result is the kind with a number, or that number, which no kind has
abbrev pub Numbered : ℕ → Result Kind UnknownKind → Type 0
Numbered n r = MatchResult r (λ kind. kind_at n ≡ Some kind) (λ e. (e.0 ≡ n) × (kind_at n ≡ None))

-- a row is held as its left half
abbrev pub halves_of : Kind → Bool
halves_of Kind.Ordinary = false
halves_of Kind.TwoLayers = false
halves_of Kind.Mirror = true
halves_of Kind.Predecessor = false

-- the table holds two layers, which are filled again before each row
abbrev pub refills : Kind → Bool
refills Kind.Ordinary = false
refills Kind.TwoLayers = true
refills Kind.Mirror = false
refills Kind.Predecessor = false

-- a target is lent in the givens' place: the boards that are one step before it are sought, and the fewest live cells are wanted
abbrev pub has_target : Kind → Bool
has_target Kind.Ordinary = false
has_target Kind.TwoLayers = false
has_target Kind.Mirror = false
has_target Kind.Predecessor = true

-- the binary digits of a row's number: w, or w ÷ 2 where a row is held as its left half; they stand for w in every power
abbrev pub kind_digits : Kind → ℕ → ℕ
kind_digits kind w = row_digits (halves_of kind) w

-- the layers of 4^d entries, d the digits of a row's number, that the table has to have room for
abbrev pub layers_of : Kind → ℕ → ℕ
layers_of kind h = cond (refills kind) 2 h

-- a job's length where a still board that keeps the givens exists, in a mirror job such a mirror board, with a target a board that steps to it; and
-- where none does
abbrev pub board_length : Kind → ℕ → ℕ → ℕ
board_length kind w h = cond (refills kind) (h * (h + 1) / 2 * 4 ^ kind_digits kind w + h) (h * (4 ^ kind_digits kind w + 1))

abbrev pub none_length : Kind → ℕ → ℕ → ℕ
none_length kind w h = h * 4 ^ kind_digits kind w + 1

-- what each unit does: the whole table is filled and then the rows are chosen; or the layers from h to k are filled before row k is chosen, layer i in the
-- half numbered i modulo 2
abbrev pub plan_of : Kind → ℕ → ℕ → ℕ → Elimination.Task
plan_of kind w h = cond (refills kind) (Two.plan h (2 ^ kind_digits kind w * 2 ^ kind_digits kind w)) (Whole.plan h (2 ^ kind_digits kind w * 2 ^ kind_digits kind w))

-- the choosing units among the first u: where the whole table is filled those beyond its h × 4^d entries
abbrev pub chosen_in : Kind → ℕ → ℕ → ℕ → ℕ
chosen_in kind w h = cond (refills kind) (chosen_from (2 ^ kind_digits kind w * 2 ^ kind_digits kind w) h) (λ u. u - table_size (kind_digits kind w) h)

-- the shape of a job: all that its numbers and stages go by; a row is a number below 2^d, and worth at most its w cells
abbrev pub shape_of : Kind → ℕ → ℕ → Shape
shape_of kind w h = record {
  codes = 2 ^ kind_digits kind w;
  entries = table_size (kind_digits kind w) (layers_of kind h);
  rows = h;
  plan = plan_of kind w h;
  chosen = chosen_in kind w h;
  board_length = board_length kind w h;
  none_length = none_length kind w h;
  most = w;
}

-- Its rounds, one for each row, counted from 0: the unit at which round r starts, the entries that are filled in it, and where the layer starts by which
-- its row is chosen.
abbrev pub round_start : Kind → ℕ → ℕ → ℕ → ℕ
round_start kind w h = cond (refills kind) (Two.start_of h (4 ^ kind_digits kind w)) (Whole.start_of h (4 ^ kind_digits kind w))

abbrev pub round_work : Kind → ℕ → ℕ → ℕ → ℕ
round_work kind w h = cond (refills kind) (λ r. (h - r) * 4 ^ kind_digits kind w) (Whole.fills_before h (4 ^ kind_digits kind w))

abbrev pub layer_start : Kind → ℕ → ℕ → ℕ
layer_start kind w = cond (refills kind) (λ r. Two.half (4 ^ kind_digits kind w) (r + 1)) (λ r. r * 4 ^ kind_digits kind w)

abbrev pub course_of : Kind → ℕ → ℕ → Schedule
course_of kind w h = record { start = round_start kind w h; work = round_work kind w h; source = layer_start kind w }

-- THE ROWS CHOSEN are the choosing units among the units done: of any number of units, up to the length, those that fill no entry
abbrev pub RowsAreChoosingUnits : Type 0
RowsAreChoosingUnits =
    (kind : Kind) (w h u : ℕ) → 0 < h → u ≤ board_length kind w h → u ≡ entries_filled (plan_of kind w h) u + chosen_in kind w h u

-- ---- what is lent to be read
-- 15 where rows are held as their left halves
abbrev pub mirror_check : Kind → ℕ → ℕ → List ℕ → Answer
mirror_check kind w h givens = cond (halves_of kind) (lopsided_check w h givens) passed

-- the checks of what is lent to be read, as opening and working make them: 3, 4 of a target; 3, 4, 14, 15 of givens
unfoldable pub read_check : Kind → Rule → ℕ → ℕ → List ℕ → Answer
read_check kind rule w h givens =
    cond (has_target kind) (target_check w h givens) (givens_check w h givens then edge_check rule w h givens then mirror_check kind w h givens)
