-- Req 07: turned boards and grids, and that a grid and its turned grid have the same best score.
-- Assumes nothing.
use Rattle.std.specs.Prelude.{◌≡◌, ◌↔◌, List, ℕ, ◌+◌, ◌*◌, ◌≤◌, ◌<◌, length, Option, None, Some}
use Rattle.board.specs.Boards.{max_width, Givens}
use Rattle.rule.specs.Rule.{Allowed}
use Rattle.rule.specs.declared.Rule.{Rule}
use Rattle.edges.specs.Edges.{edge_three}
use Rattle.life.specs.Plane.{on_plane, Still}
use Rattle.third_demand.specs.Grid.{Solution, Optimal, score}
use Rattle.turns.specs.Turn.{Turn, turned_width, turned_height, Cell, cell_from, turned_bytes}

-- ---- boards
-- a board is still exactly when the turned board is
abbrev pub StillTurned : Type 0
StillTurned =
    (rule : Rule) (t : Turn) (w h : ℕ) (board : List ℕ) → length board ≡ w * h →
    Still rule (on_plane w h board) ↔ Still rule (on_plane (turned_width t w h) (turned_height t w h) (turned_bytes t w h board))

-- a turned board with the turned givens has the same score
abbrev pub ScoreTurned : Type 0
ScoreTurned =
    (t : Turn) (w h : ℕ) (givens board : List ℕ) →
    score (turned_width t w h) (turned_height t w h) (turned_bytes t w h givens) (turned_bytes t w h board) ≡ score w h givens board

-- ---- grids
-- a grid that may be turned: width and height are both at most 10
pub record Turnable (w h : ℕ) (givens : List ℕ) : Type 0 where
  pub grid : Givens w h givens
  pub low : h ≤ max_width

-- turned, it is a grid that may be turned
abbrev pub GridTurned : Type 0
GridTurned =
    (t : Turn) (w h : ℕ) (givens : List ℕ) → Turnable w h givens →
    Turnable (turned_width t w h) (turned_height t w h) (turned_bytes t w h givens)

-- a board is still and keeps the givens exactly when the turned board is and keeps the turned ones
abbrev pub SolutionTurned : Type 0
SolutionTurned =
    (rule : Rule) (t : Turn) (w h : ℕ) (givens board : List ℕ) → Turnable w h givens → length board ≡ w * h →
    Solution rule w h givens board ↔ Solution rule (turned_width t w h) (turned_height t w h) (turned_bytes t w h givens) (turned_bytes t w h board)

-- an edge three turns into an edge three: a cell of the turned grid is the middle of one exactly when the cell that it reads is
abbrev pub EdgeThreesTurned : Type 0
EdgeThreesTurned =
    (t : Turn) (w h : ℕ) (givens : List ℕ) (s : Cell) → s.row < turned_height t w h → s.column < turned_width t w h →
    edge_three (turned_width t w h) (turned_height t w h) (turned_bytes t w h givens) (s.row + 1) (s.column + 1)
    ≡ edge_three w h givens ((cell_from t w h s).row + 1) ((cell_from t w h s).column + 1)

-- ---- the best score
-- a grid's best score: its best board's; or none, where no still board keeps the givens
pub data BestScore (rule : Rule) (w h : ℕ) (givens : List ℕ) : Option ℕ → Type 0 where
  best : (board : List ℕ) → Optimal rule w h givens board → BestScore rule w h givens (Some (score w h givens board))
  no_board : ((board : List ℕ) → Solution rule w h givens board → ⊥) → BestScore rule w h givens None

-- TURNING A GRID CHANGES NO BEST SCORE: under every rule that isn't barred a grid has exactly one best score, none counted, and the turned grid has the
-- same
abbrev pub SameBestScore : Type 0
SameBestScore =
    (rule : Rule) → Allowed rule → (t : Turn) (w h : ℕ) (givens : List ℕ) → Turnable w h givens →
    ((x : Option ℕ) × BestScore rule w h givens x × ((y : Option ℕ) → BestScore rule w h givens y → y ≡ x)) ×
    ((x : Option ℕ) → BestScore rule w h givens x ↔ BestScore rule (turned_width t w h) (turned_height t w h) (turned_bytes t w h givens) x)
