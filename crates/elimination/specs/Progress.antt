-- What m units of a job leave in its memory and in its numbers, for any orderly plan: the entries that stand are right, the rows chosen are the last
-- board's and the job carries them, and every other place of the table and of the board is what it was.
-- Assumes nothing.
use Rattle.std.specs.Prelude.{◌≡◌, List, ℕ, zero, suc, ◌-◌, ◌*◌, ◌≤◌, ◌<◌, length, get_or}
use Rattle.elimination.specs.Machine.{advance, Lasts}
use Rattle.elimination.specs.Job.{mark_number, State, Setup, opened, machine}
use Rattle.elimination.specs.Places.{Filled, Orderly}
use Rattle.elimination.specs.Shape.{Shape, rows_chosen, ShapeLaws}
use Rattle.elimination.specs.Rows.{RowWriter}

-- the first k rows of a board are the last board's, and every other byte is what it was
pub record Written (w k : ℕ) (final before now : List ℕ) : Type 0 where
  pub size : length now ≡ length before
  pub rows : (p : ℕ) → p < k * w → get_or now p 0 ≡ get_or final p 0
  pub rest : (p : ℕ) → k * w ≤ p → get_or now p 0 ≡ get_or before p 0

-- row i of a board, counted from 1 as document 01 does; row 0 is 0
abbrev pub row_at : (ℕ → List ℕ → ℕ) → List ℕ → ℕ → ℕ
row_at read board zero = 0
row_at read board (suc r) = read r board

module _ {X : Type 0} (J : Setup X (List ℕ)) (read : ℕ → List ℕ → ℕ) where
  -- what the first k rows of a board are worth, the first of them added first
  unfoldable pub worth_so_far : List ℕ → ℕ → X
  worth_so_far board zero = J.kind.start
  worth_so_far board (suc r) = J.kind.add (J.height - suc r) (read r board) (worth_so_far board r)

  -- Row above a, last row b and worth so far x, once the first k rows of a board are chosen, which are at most all of them: a is row k - 1 and b is
  -- row k, each 0 until such a row is chosen, and x is what the k rows are worth.
  pub record Carried (k : ℕ) (board : List ℕ) (a b : ℕ) (x : X) : Type 0 where
    pub few : k ≤ J.height
    pub above : a ≡ row_at read board (k - 1)
    pub last : b ≡ row_at read board k
    pub so_far : x ≡ worth_so_far board k

-- the rows chosen; none where the job has ended with none
abbrev pub rows_held : {X B : Type 0} → Shape → State X B → ℕ
rows_held S s = rows_chosen S s.units (mark_number s.mark)

module _ {X : Type 0} (J : Setup X (List ℕ)) (S : Shape) (w : ℕ) (read : ℕ → List ℕ → ℕ) where
  -- so it is in state s, after m units from the table t and the board β, on the way to the board `final`
  pub record Progress (m : ℕ) (final : List ℕ) (t : List X) (β : List ℕ) (s : State X (List ℕ)) : Type 0 where
    pub table : Filled J.kind J.plan m t s.table
    pub board : Written w (rows_held S s) final β s.board
    pub carried : Carried J read (rows_held S s) final s.above s.last s.so_far

  -- THE THEOREM of a job's progress: so it is after m units, of a job that lasts `long` units, over memory with room
  abbrev pub ProgressMade : Type 0
  ProgressMade = (room long : ℕ) → S.plan ≡ J.plan → S.rows ≡ J.height → ShapeLaws S
      → Orderly J.kind.codes J.height room S.board_length J.plan → 0 < J.kind.codes → 0 < J.height
      → RowWriter w J.kind.codes J.write read → long ≤ S.board_length
      → (t : List X) (β : List ℕ) → room ≤ length t → J.height * w ≤ length β → Lasts (machine J) (opened J.kind t β) long
      → (m : ℕ) → m ≤ long
      → Progress m (advance (machine J) long (opened J.kind t β)).board t β (advance (machine J) m (opened J.kind t β))
