-- What is proved of the step, the judge and the rows, over the definitions that the contracts cite.
-- Assumes nothing.
use Rattle.std.specs.Prelude.{◌≡◌, ◌↔◌, ◌⊎◌, List, ℕ, ◌+◌, ◌^◌, ◌<◌, ◌≤◌, ℤ, pos, negsuc, length, Option, None, Some, Result, Ok}
use Rattle.std.proofs.Math.IntN.{suc_ℤ}
use Rattle.board.specs.Answers.{passed}
use Rattle.board.specs.Boards.{Bytes, Board}
use Rattle.rule.specs.Rule.{has_count, Allowed, conway_rule, next_under}
use Rattle.rule.specs.declared.Rule.{Rule}
use Rattle.life.specs.Plane.{Plane, on_plane, three, step_under, life_step, table_step, Still, LeadsTo, StillBy, LeadsToBy}
use Rattle.life.specs.Rows.{RowsAgree, RowsStepTo, cell_of, window}
use Rattle.life.specs.Calls.{life_check, stepped, judged, step_rule, step_writes, judge_rule, verdict_says, still, changes}
use Rattle.board.specs.declared.Refusal.{Refusal}
use Rattle.life.specs.declared.Change.{Change}

-- ---- for every next-state table whose pattern 0 stays dead
-- cell (r, c) stands before cell (s, d) in reading order
abbrev pub Before : ℕ → ℕ → ℕ → ℕ → Type 0
Before r c s d = (r < s) ⊎ ((r ≡ s) × (c < d))

-- row r, column c is the first cell of the ring or the inside that a step changes
pub record FirstChange (step : Plane → Plane) (w h : ℕ) (P : Plane) (r c : ℕ) : Type 0 where
  pub row : r ≤ h + 1
  pub column : c ≤ w + 1
  pub changed : step P (pos r) (pos c) ≡ P (pos r) (pos c) → ⊥
  pub kept : (s d : ℕ) → d ≤ w + 1 → Before s d r c → step P (pos s) (pos d) ≡ P (pos s) (pos d)

-- "still" exactly where no cell of the plane changes, a cell exactly when it is the first that changes
abbrev pub JudgeRightBy : (ℕ → ℕ) → Type 0
JudgeRightBy next =
    (w h : ℕ) (cells : List ℕ) →
    (judged next w h cells ≡ still ↔ StillBy next (on_plane w h cells)) ×
    ((r c : ℕ) → judged next w h cells ≡ changes r c ↔ FirstChange (table_step next) w h (on_plane w h cells) r c)

-- the bytes that are written, with row 0 and column 0 at the first and all outside dead, are the next plane
abbrev pub StepRightBy : (ℕ → ℕ) → Type 0
StepRightBy next =
    (w h : ℕ) (cells : List ℕ) (r c : ℤ) → on_plane (w + 2) (h + 2) (stepped next w h cells) (suc_ℤ r) (suc_ℤ c) ≡ table_step next (on_plane w h cells) r c

-- a board of any size is still exactly when its rows agree
abbrev pub StillByRowsBy : (ℕ → ℕ) → Type 0
StillByRowsBy next = (w h : ℕ) (cells : List ℕ) → Bytes 1 w h cells → StillBy next (on_plane w h cells) ↔ RowsAgree next w h cells

-- one step makes a board of any size the target exactly when its rows step to the target's
abbrev pub StepsByRowsBy : (ℕ → ℕ) → Type 0
StepsByRowsBy next =
    (w h : ℕ) (cells target : List ℕ) → Bytes 1 w h cells → Bytes 1 w h target →
    LeadsToBy next (on_plane w h cells) (on_plane w h target) ↔ RowsStepTo next w h cells target

abbrev pub ForEveryTable : Type 0
ForEveryTable = (next : ℕ → ℕ) → next 0 ≡ 0 → JudgeRightBy next × StepRightBy next × StillByRowsBy next × StepsByRowsBy next

-- ---- under every rule, by the neighbour count
-- the checks of stepping and judging turn away exactly the barred rules and what is no board
abbrev pub LifeCheckRight : Type 0
LifeCheckRight = (rule : Rule) (w h : ℕ) (cells : List ℕ) → life_check rule w h cells ≡ passed ↔ Allowed rule × Board w h cells

-- of what `judge` hands back, by its contract: no change exactly for an allowed rule and a board that is still under it,
-- a cell exactly when it is the first that changes
abbrev pub JudgeRight : Type 0
JudgeRight =
    (rule : Rule) (w h : ℕ) (cells : List ℕ) (v : Result (Option Change) Refusal) → verdict_says v ≡ judge_rule rule w h cells →
    (v ≡ Ok None ↔ Allowed rule × Board w h cells × Still rule (on_plane w h cells)) ×
    ((r c : ℕ) →
    v ≡ Ok (Some (record { row = r; column = c })) ↔ Allowed rule × Board w h cells × FirstChange (step_under rule) w h (on_plane w h cells) r c)

-- of what a step that passes, so of an allowed rule and a board, leaves in the buffer: it is the next plane
abbrev pub StepRight : Type 0
StepRight =
    (rule : Rule) (w h : ℕ) (cells ring : List ℕ) → step_rule rule w h cells (length ring) ≡ passed →
    (r c : ℤ) → on_plane (w + 2) (h + 2) (step_writes rule w h cells ring) (suc_ℤ r) (suc_ℤ c) ≡ step_under rule (on_plane w h cells) r c

-- a board of any size is still exactly when its rows agree
abbrev pub StillByRows : Type 0
StillByRows =
    (rule : Rule) → Allowed rule →
    (w h : ℕ) (cells : List ℕ) → Bytes 1 w h cells → Still rule (on_plane w h cells) ↔ RowsAgree (next_under rule) w h cells

-- one step makes a board of any size the target, every other cell of the plane dead, exactly when its rows step to the target's
abbrev pub StepsByRows : Type 0
StepsByRows =
    (rule : Rule) → Allowed rule →
    (w h : ℕ) (cells target : List ℕ) → Bytes 1 w h cells → Bytes 1 w h target →
    LeadsTo rule (on_plane w h cells) (on_plane w h target) ↔ RowsStepTo (next_under rule) w h cells target

-- row or column r is past the ring around rows or columns 1 to n
pub data Past (n : ℕ) : ℤ → Type 0 where
  under : (k : ℕ) → Past n (negsuc k)
  over : (k : ℕ) → n + 1 < k → Past n (pos k)

-- a cell past the ring, two or more away from the board, stays dead exactly where 0 is no birth count
abbrev pub FarCells : Type 0
FarCells =
    (rule : Rule) (w h : ℕ) (cells : List ℕ) (r c : ℤ) → Past h r ⊎ Past w c →
    step_under rule (on_plane w h cells) r c ≡ 0 ↔ has_count rule.births 0 ≡ 0

-- Conway's rule steps a board as Life does
abbrev pub ConwaySteps : Type 0
ConwaySteps =
    (w h : ℕ) (cells : List ℕ) → Board w h cells → (r c : ℤ) → step_under conway_rule (on_plane w h cells) r c ≡ life_step (on_plane w h cells) r c

-- ---- windows
-- a row's window is its three cells
abbrev pub WindowRight : Type 0
WindowRight = (w row c : ℕ) → row < 2 ^ w → c ≤ w + 1 → window w row c ≡ three (cell_of w row) (pos c)
