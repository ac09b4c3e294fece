-- Document 01, "Life's step", and Req 02: what stepping writes and what judging answers, for every input.
-- Assumes nothing.
use Rattle.std.specs.Prelude.{Bool, false, List, [], ◌∷◌, ℕ, ◌+◌, ◌*◌, ◌/◌, ◌%◌, eqb, pos, length, Option, None, Some, Result, Ok, Err}
use Rattle.board.specs.Search.{first_not}
use Rattle.board.specs.Answers.{Answer, gives, ◌then◌, refuse_unless, refusal_says, after}
use Rattle.board.specs.Checks.{cells_check}
use Rattle.board.specs.Lists.{listed}
use Rattle.rule.specs.Rule.{grid_check, next_under}
use Rattle.rule.specs.declared.Rule.{Rule}
use Rattle.life.specs.Plane.{on_plane, table_step}
use Rattle.board.specs.declared.Refusal.{Refusal}
use Rattle.life.specs.declared.Change.{Change}

-- the cells of the board and its ring, counted in reading order: place k is row k / (w + 2), column k % (w + 2)
abbrev pub ring_size : ℕ → ℕ → ℕ
ring_size w h = (w + 2) * (h + 2)

-- the next state at a place, and whether it is the state now
unfoldable pub next_at : (ℕ → ℕ) → ℕ → ℕ → List ℕ → ℕ → ℕ
next_at next w h cells k = table_step next (on_plane w h cells) (pos (k / (w + 2))) (pos (k % (w + 2)))

unfoldable pub keeps_at : (ℕ → ℕ) → ℕ → ℕ → List ℕ → ℕ → Bool
keeps_at next w h cells k = eqb (next_at next w h cells k) (on_plane w h cells (pos (k / (w + 2))) (pos (k % (w + 2))))

-- stepping and judging begin with 1, 2, 13, 5, 11
unfoldable pub life_check : Rule → ℕ → ℕ → List ℕ → Answer
life_check rule w h cells = grid_check false rule w h then cells_check w h cells

-- ---- stepping
-- the next pattern, ring included, as (w + 2) × (h + 2) bytes
unfoldable pub stepped : (ℕ → ℕ) → ℕ → ℕ → List ℕ → List ℕ
stepped next w h cells = listed (next_at next w h cells) (ring_size w h)

-- stepping into a buffer of n bytes: 1, 2, 13, 5, 11, 10
unfoldable pub step_rule : Rule → ℕ → ℕ → List ℕ → ℕ → Answer
step_rule rule w h cells n = life_check rule w h cells then refuse_unless (eqb n (ring_size w h)) 10

-- what the buffer holds afterwards
unfoldable pub step_writes : Rule → ℕ → ℕ → List ℕ → List ℕ → List ℕ
step_writes rule w h cells ring = after (step_rule rule w h cells (length ring)) (stepped (next_under rule) w h cells) ring

-- ---- judging
-- "still", or the row and the column of a cell that changes, ring rows and columns counted
abbrev pub still : Answer
still = gives []

abbrev pub changes : ℕ → ℕ → Answer
changes row column = gives (row ∷ column ∷ [])

abbrev pub change_says : Option Change → Answer
change_says None = still
change_says (Some cell) = changes cell.row cell.column

abbrev pub verdict_says : Result (Option Change) Refusal → Answer
verdict_says (Ok change) = change_says change
verdict_says (Err r) = refusal_says r

abbrev pub verdict_at : ℕ → Option ℕ → Answer
verdict_at w None = still
verdict_at w (Some k) = changes (k / (w + 2)) (k % (w + 2))

-- the first cell of the ring or the inside, in reading order, that changes
unfoldable pub judged : (ℕ → ℕ) → ℕ → ℕ → List ℕ → Answer
judged next w h cells = verdict_at w (first_not (keeps_at next w h cells) (ring_size w h))

-- judging: 1, 2, 13, 5, 11, then the verdict
unfoldable pub judge_rule : Rule → ℕ → ℕ → List ℕ → Answer
judge_rule rule w h cells = life_check rule w h cells then judged (next_under rule) w h cells
