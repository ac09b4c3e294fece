-- Document 01, "Grid, row word, givens", Req 06, Req 08 and Req 09: givens kept, mirror boards, boards that step to a target, the score, board order, and
-- the board that is wanted by a job of a kind.
-- Assumes nothing.
use Rattle.std.specs.Prelude.{◌≡◌, Bool, true, false, cond, not, List, ◌⊎◌, ℕ, ◌*◌, ◌-◌, ◌/◌, ◌≤◌, ◌<◌, get_or}
use Rattle.board.specs.Sums.{total}
use Rattle.board.specs.Boards.{among, SizedBy, Bytes}
use Rattle.elimination.specs.Boards.{Earlier}
use Rattle.mirror.specs.Mirror.{Mirrored}
use Rattle.rule.specs.declared.Rule.{Rule}
use Rattle.life.specs.Plane.{on_plane, Still, LeadsTo}
use Rattle.life.specs.Rows.{row_number, row_of}
use Rattle.job_kind.specs.Kinds.{halves_of, has_target}
use Rattle.job_kind.specs.declared.Kind.{Kind}
use Rattle.score_table.specs.Rows.{cell_worth}

-- a board keeps the givens: every given cell has its given state, 1 given dead, 2 given live
pub record KeepsGivens (w h : ℕ) (givens board : List ℕ) : Type 0 where
  pub dead : (p : ℕ) → p < w * h → get_or givens p 0 ≡ 1 → get_or board p 0 ≡ 0
  pub live : (p : ℕ) → p < w * h → get_or givens p 0 ≡ 2 → get_or board p 0 ≡ 1

-- a board of any size that is still under the rule and keeps the givens
pub record Solution (rule : Rule) (w h : ℕ) (givens board : List ℕ) : Type 0 where
  pub bytes : Bytes 1 w h board
  pub still : Still rule (on_plane w h board)
  pub keeps : KeepsGivens w h givens board

-- a mirror board, one that equals its own left-right reflection, that is still and keeps the givens
pub record MirrorSolution (rule : Rule) (w h : ℕ) (givens board : List ℕ) : Type 0 where
  pub solution : Solution rule w h givens board
  pub mirrored : Mirrored w h board

-- a predecessor of a target: a board that one step under the rule makes the target, every other cell of the plane dead
pub record Predecessor (rule : Rule) (w h : ℕ) (target board : List ℕ) : Type 0 where
  pub bytes : Bytes 1 w h board
  pub leads : LeadsTo rule (on_plane w h board) (on_plane w h target)

-- ---- by the kind of job
-- the boards among which one is wanted; of a job with a target `givens` is the target that is lent in their place
abbrev pub SolutionBy : Kind → Rule → ℕ → ℕ → List ℕ → List ℕ → Type 0
SolutionBy Kind.Ordinary rule w h givens board = Solution rule w h givens board
SolutionBy Kind.TwoLayers rule w h givens board = Solution rule w h givens board
SolutionBy Kind.Mirror rule w h givens board = MirrorSolution rule w h givens board
SolutionBy Kind.Predecessor rule w h target board = Predecessor rule w h target board

-- what is lent to be read is a target's cells, where the job has a target
abbrev pub TargetCells : Kind → ℕ → ℕ → List ℕ → Type 0
TargetCells kind w h lent = has_target kind ≡ true → Bytes 1 w h lent

-- a board: its cells, and a mirror board where rows are held as their left halves
pub record BoardBy (halves : Bool) (w h : ℕ) (cells : List ℕ) : Type 0 where
  pub size : SizedBy halves w h
  pub bytes : Bytes 1 w h cells
  pub mirrored : halves ≡ true → Mirrored w h cells

-- the number of the left half of row r, rows 1 to h; of row 0 and those past row h it is 0
unfoldable pub half_of : ℕ → ℕ → List ℕ → ℕ → ℕ
half_of w h cells r = cond (among h r) (row_number cells ((r - 1) * w) (w / 2)) 0

-- the number that row r is held as
abbrev pub held_row : Bool → ℕ → ℕ → List ℕ → ℕ → ℕ
held_row true = half_of
held_row false = row_of

-- the score: the number of live cells that were free
unfoldable pub score : ℕ → ℕ → List ℕ → List ℕ → ℕ
score w h givens board = total (λ p. cell_worth (get_or givens p 0) (get_or board p 0)) (w * h)

-- the number of all live cells, given or not
unfoldable pub population : ℕ → ℕ → List ℕ → ℕ
population w h board = total (λ p. get_or board p 0) (w * h)

-- what a board counts: its score, and all its live cells where there is a target
abbrev pub count_by : Bool → ℕ → ℕ → List ℕ → List ℕ → ℕ
count_by true w h target board = population w h board
count_by false w h givens board = score w h givens board

-- ---- the board that is wanted
-- board order, by the numbers that rows are held as: of rows 1 to h the first that differ decide, and the smaller comes first; or, by Req 09, the greater
abbrev pub Precedes : (halves greater_first : Bool) (w h : ℕ) (board other : List ℕ) → Type 0
Precedes halves greater_first w h board other = Earlier greater_first h (held_row halves w h board) (held_row halves w h other)

-- count x is no better than y, where the fewest are wanted, or the most
abbrev pub CountsNoBetter : Bool → ℕ → ℕ → Type 0
CountsNoBetter true x y = y ≤ x
CountsNoBetter false x y = x ≤ y

-- best among the boards that are sought by a count of cells: it is one of them, none counts better, and any other that counts as many comes later in
-- board order, the smaller rows first or the greater
pub record BestAmong (halves fewest greater_first : Bool) (Sought : List ℕ → Type 0) (count : List ℕ → ℕ) (w h : ℕ) (board : List ℕ) : Type 0 where
  pub solution : Sought board
  pub unbeaten : (other : List ℕ) → Sought other → CountsNoBetter fewest (count other) (count board)
  pub earliest : (other : List ℕ) → Sought other → count other ≡ count board → (other ≡ board) ⊎ Precedes halves greater_first w h board other

-- by the kind of job: the most are wanted, and among equals the greater rows come first (Req 09); where there is a target the fewest, and among equals
-- the smaller rows (Req 08)
abbrev pub BestBy : Kind → (List ℕ → ℕ) → Rule → ℕ → ℕ → List ℕ → List ℕ → Type 0
BestBy kind count rule w h givens board = BestAmong (halves_of kind) (has_target kind) (not (has_target kind)) (SolutionBy kind rule w h givens) count w h board

-- the board that is wanted: best by its score, or by all its live cells where there is a target
abbrev pub OptimalBy : Kind → Rule → ℕ → ℕ → List ℕ → List ℕ → Type 0
OptimalBy kind rule w h givens board = BestBy kind (count_by (has_target kind) w h givens) rule w h givens board

-- of an ordinary job: among all still boards that keep the givens
abbrev pub Optimal : Rule → ℕ → ℕ → List ℕ → List ℕ → Type 0
Optimal rule w h givens board = OptimalBy Kind.Ordinary rule w h givens board

-- of a target: the predecessor with the fewest live cells
abbrev pub Fewest : Rule → ℕ → ℕ → List ℕ → List ℕ → Type 0
Fewest rule w h target board = OptimalBy Kind.Predecessor rule w h target board
