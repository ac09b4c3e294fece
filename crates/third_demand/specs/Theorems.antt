-- What is proved of the rules over the rows of a grid: an ending is a solution, the rows that are chosen are the wanted board, an entry is what
-- document 01, "The score table", says it is, the wanted board is the best by all live cells too, a grid turned away for an edge three has no still
-- board that keeps the givens, a unit changes no byte of the board but those of the row that it chooses, and an ordinary job and one of two layers come
-- to the same board; and a still board is its own predecessor. The third demand is stated in `Demand`, and the round trip in `Calls` of `job`. Endings,
-- choices and entries are those of a job of any kind; with a target `givens` is the target.
-- Assumes nothing.
use Rattle.std.specs.Prelude.{◌≡◌, Bool, true, false, cond, ◌↔◌, List, [], ◌∷◌, ℕ, suc, ◌+◌, ◌*◌, ◌-◌, ◌^◌, ◌≤◌, ◌<◌, eqb, length, get_or, Ok, Result}
use Rattle.board.specs.Answers.{Answer, passed, refuses}
use Rattle.board.specs.Boards.{SizedBy, Bytes}
use Rattle.board.specs.Sums.{total}
use Rattle.edges.specs.Edges.{edge_check}
use Rattle.elimination.specs.Kind.{entry, right_entry, right_rows}
use Rattle.elimination.specs.Endings.{Ending}
use Rattle.elimination.specs.Boards.{rows_from}
use Rattle.rule.specs.Rule.{Allowed}
use Rattle.rule.specs.declared.Rule.{Rule}
use Rattle.life.specs.Plane.{on_plane, Still}
use Rattle.third_demand.specs.Grid.{KeepsGivens, Solution, Predecessor, SolutionBy, TargetCells, BoardBy, held_row, Precedes, CountsNoBetter, BestBy, OptimalBy, score, population, count_by}
use Rattle.score_table.specs.Rows.{row_worth, marks_of, row_for}
use Rattle.score_table.specs.ScoreTable.{absent, reads_of}
use Rattle.job_kind.specs.Kinds.{halves_of, has_target, kind_digits}
use Rattle.job.specs.Jobs.{open_rule}
use Rattle.job.specs.Calls.{Opens}
use Rattle.job_kind.specs.declared.Kind.{Kind}
use Rattle.job.specs.declared.Job.{Job}
use Rattle.service.specs.Service.{next, infeasible, work_check, work_of}
use Rattle.service.specs.Demand.{Call, run, Each, Fair, summed, Aim, Served}
use Rattle.service.specs.JobKinds.{aim_of}
use Rattle.service.specs.RowUnits.{OnBoard}
use Rattle.third_demand.specs.Units.{State, want_by, grid_rows, unit_of, grid}
use Rattle.third_demand.specs.Demand.{grid_kind}
use Rattle.third_demand.specs.Lent.{lent_state}
use Rattle.board.specs.declared.Refusal.{Refusal}

-- ---- boards and endings
-- rows 1 to h of a board, as the numbers that they are held as
abbrev pub all_rows : Bool → ℕ → ℕ → List ℕ → List ℕ
all_rows halves w h board = rows_from (held_row halves w h board) 0 h

-- the k rows cs may stand below a over b and end the board there: every three neighbouring rows agree, and each keeps its givens; with a target every
-- three step to its row
abbrev pub GridEnding : Kind → Rule → ℕ → ℕ → List ℕ → ℕ → ℕ → ℕ → List ℕ → Type 0
GridEnding kind rule w h givens k a b cs = Ending (grid_rows kind rule w h givens) k a b cs

-- below two dead rows, a board's rows are an ending exactly when the board is a solution
abbrev pub EndingsAreSolutions : Type 0
EndingsAreSolutions =
    (kind : Kind) (rule : Rule) → Allowed rule → (w h : ℕ) (givens board : List ℕ) → TargetCells kind w h givens → BoardBy (halves_of kind) w h board
    → GridEnding kind rule w h givens h 0 0 (all_rows (halves_of kind) w h board) ↔ SolutionBy kind rule w h givens board

-- ---- the rows that are chosen
-- by right entries either the wanted board is chosen, and the right entry is what it counts; or there is no solution, and the right entry says so
pub data BestOrNone (kind : Kind) (rule : Rule) (w h : ℕ) (givens : List ℕ) : Type 0 where
  best : (board : List ℕ) → OptimalBy kind rule w h givens board → all_rows (halves_of kind) w h board ≡ right_rows (grid_rows kind rule w h givens) h 0 0
      → count_by (has_target kind) w h givens board ≡ right_entry (grid_rows kind rule w h givens) h 0 0 → BestOrNone kind rule w h givens
  none : ((board : List ℕ) → SolutionBy kind rule w h givens board → ⊥) → right_entry (grid_rows kind rule w h givens) h 0 0 ≡ absent
      → BestOrNone kind rule w h givens

abbrev pub ChoiceIsOptimal : Type 0
ChoiceIsOptimal =
    (kind : Kind) (rule : Rule) → Allowed rule → (w h : ℕ) (givens : List ℕ) → TargetCells kind w h givens → SizedBy (halves_of kind) w h
    → BestOrNone kind rule w h givens

-- Req 06: ties go by the left halves' numbers, which is the order by the whole rows among mirror boards, the smaller first or the greater
abbrev pub MirrorOrder : Type 0
MirrorOrder =
    (greater_first : Bool) (w h : ℕ) (board other : List ℕ) → BoardBy true w h board → BoardBy true w h other
    → Precedes true greater_first w h board other ↔ Precedes false greater_first w h board other

-- ---- entries
-- what the last rows of a grid of h rows are worth; with a target, which isn't read as marks, all their live cells
unfoldable pub rows_worth : Kind → ℕ → ℕ → List ℕ → List ℕ → ℕ
rows_worth kind w h givens [] = 0
rows_worth kind w h givens (c ∷ cs) =
    row_worth w (marks_of (has_target kind) givens) ((h - suc (length cs)) * w) (row_for (want_by kind) w c) + rows_worth kind w h givens cs

-- x is the best worth of k rows that end the board below a over b, the greatest or with a target the least, and counts; or the number for none where
-- there are none such
pub data BestWorth (kind : Kind) (rule : Rule) (w h : ℕ) (givens : List ℕ) (k a b x : ℕ) : Type 0 where
  best_ending : (cs : List ℕ) → GridEnding kind rule w h givens k a b cs → rows_worth kind w h givens cs ≡ x → x ≤ (want_by kind).limit
      → ((ds : List ℕ) → GridEnding kind rule w h givens k a b ds → CountsNoBetter (has_target kind) (rows_worth kind w h givens ds) x) → BestWorth kind rule w h givens k a b x
  no_ending : ((ds : List ℕ) → GridEnding kind rule w h givens k a b ds → ⊥) → x ≡ absent → BestWorth kind rule w h givens k a b x

-- layer i of a table is right: each of its entries (i, b, c) is the right one
abbrev pub RightGridLayer : Kind → Rule → ℕ → ℕ → List ℕ → List ℕ → ℕ → Type 0
RightGridLayer kind rule w h givens table i =
    (b c : ℕ) → b < 2 ^ kind_digits kind w → c < 2 ^ kind_digits kind w
    → reads_of (kind_digits kind w) table i b c ≡ right_entry (grid_rows kind rule w h givens) (h - i) b c

-- over a table whose layer i + 1 is right, the rule of entry (i, a, b) gives the right entry; layer h reads no layer. And a right entry is the
-- greatest number of free live cells, or with a target the least number of live cells, in rows i + 1 to h when row i - 1 is a and row i is b
pub record EntryRight (kind : Kind) (rule : Rule) (w h : ℕ) (givens : List ℕ) (i a b : ℕ) : Type 0 where
  pub from_below : (table : List ℕ) → (i < h → RightGridLayer kind rule w h givens table (i + 1))
      → entry (grid_rows kind rule w h givens) (h - i) a b (reads_of (kind_digits kind w) table (i + 1) b)
      ≡ right_entry (grid_rows kind rule w h givens) (h - i) a b
  pub means : BestWorth kind rule w h givens (h - i) a b (right_entry (grid_rows kind rule w h givens) (h - i) a b)

abbrev pub EntriesRight : Type 0
EntriesRight =
    (kind : Kind) (rule : Rule) (w h : ℕ) (givens : List ℕ) → SizedBy (halves_of kind) w h → (i a b : ℕ) → i ≤ h → b < 2 ^ kind_digits kind w
    → EntryRight kind rule w h givens i a b

-- ---- the score and all live cells
-- the cells that are given live
unfoldable pub live_givens : ℕ → ℕ → List ℕ → ℕ
live_givens w h givens = total (λ p. cond (eqb (get_or givens p 0) 2) 1 0) (w * h)

-- every board that keeps the givens has the same given live cells beside those that it scores
abbrev pub GivensApart : Type 0
GivensApart = (w h : ℕ) (givens board : List ℕ) → KeepsGivens w h givens board → population w h board ≡ score w h givens board + live_givens w h givens

-- so the wanted board is the best by all live cells too
abbrev pub SameBest : Type 0
SameBest =
    (kind : Kind) (rule : Rule) (w h : ℕ) (givens board : List ℕ) → OptimalBy kind rule w h givens board ↔ BestBy kind (population w h) rule w h givens board

-- ---- predecessors
-- Req 08: a board is its own predecessor exactly when it is still
abbrev pub StillIsOwnPredecessor : Type 0
StillIsOwnPredecessor =
    (rule : Rule) (w h : ℕ) (board : List ℕ) → Bytes 1 w h board → Predecessor rule w h board board ↔ Still rule (on_plane w h board)

-- ---- edge threes
-- Req 04 loses nothing: a grid that has a still board that keeps the givens passes check 14, whichever call makes it, and one that opening or a working
-- call turns away by 14 has none
pub record EdgeThreeHasNoBoard : Type 0 where
  pub passes : (rule : Rule) (w h : ℕ) (givens still : List ℕ) → Solution rule w h givens still → edge_check rule w h givens ≡ passed
  pub opening : (kind : Kind) (rule : Rule) (w h : ℕ) (givens values : List ℕ) → open_rule kind rule w h givens ≡ refuses 14 values
      → (still : List ℕ) → Solution rule w h givens still → ⊥
  pub working : (j : Job) (givens table board : List ℕ) (allowance : ℕ) (values : List ℕ)
      → (work_of grid j givens table board allowance).answer ≡ refuses 14 values
      → (still : List ℕ) → Solution j.rule j.width j.height givens still → ⊥

-- ---- rows go straight to the board
-- Req 03, of a unit of a call that passed its checks: one of filling changes no byte of the board; one that chooses row k changes no byte outside row
-- k, and row k then reads as the last row that the job carries. (`ReadsAsRow` of crate `board_rows`: what `read_row` reads with a digit for each cell is
-- `row_of`'s row. Of a mirror job it reads the left half, and `CellsWritten` there has all w bytes.)
abbrev pub RowsToBoard : Type 0
RowsToBoard =
    (givens : List ℕ) (s s' : State) → work_check grid s.job givens s.table s.board ≡ passed → unit_of givens s ≡ next s'
    → OnBoard (grid_kind s.job.kind s.job.rule s.job.width s.job.height givens) s.job.stage s s'

-- ---- the same board from two layers
-- What two lists of calls come to, from two jobs of one grid: to the same board and the same last answer, or both to none. Where each list reaches its
-- job's length, its board is that one.
pub data Alike (A A' : Aim (List ℕ)) (calls calls' : List (Call grid)) (s s' : State) : Type 0 where
  solved : (best : List ℕ) (final : Answer) → A.Wanted best final → Served grid A A.board_length final best calls s → Served grid A' A'.board_length final best calls' s'
      → (A.board_length ≤ summed grid calls s → A'.board_length ≤ summed grid calls' s' → (run grid calls s).board ≡ (run grid calls' s').board) → Alike A A' calls calls' s s'
  unsolvable : ((board : List ℕ) → A.Solution board → ⊥) → Served grid A A.none_length infeasible s.board calls s
      → Served grid A' A'.none_length infeasible s'.board calls' s' → Alike A A' calls calls' s s'

-- Req 05, of a grid opened as an ordinary job and as one of two layers, over any tables and boards, and of every two lists of calls of the third demand
abbrev pub SameBoard : Type 0
SameBoard =
    (rule : Rule) (w h : ℕ) (givens : List ℕ) (table board table' board' : List ℕ) (r r' : Result Job Refusal) (j j' : Job)
    → Opens Kind.Ordinary rule w h givens r → r ≡ Ok j → Opens Kind.TwoLayers rule w h givens r' → r' ≡ Ok j'
    → let s = lent_state j table board in let s' = lent_state j' table' board' in
    (calls calls' : List (Call grid)) → Each grid (Fair grid givens) calls s → Each grid (Fair grid givens) calls' s'
    → Alike (aim_of (grid_kind Kind.Ordinary rule w h givens)) (aim_of (grid_kind Kind.TwoLayers rule w h givens)) calls calls' s s'
