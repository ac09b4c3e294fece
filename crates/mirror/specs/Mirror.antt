-- Req 06: mirror boards, and when a grid is turned away as lopsided.
-- Assumes nothing.
use Rattle.std.specs.Prelude.{◌≡◌, Bool, List, ℕ, ◌+◌, ◌-◌, ◌/◌, ◌%◌, eqb, length}
use Rattle.board.specs.Answers.{Answer, refuse_at}
use Rattle.board.specs.Boards.{byte_at}
use Rattle.board.specs.Search.{first_not}
use Rattle.turns.specs.Turn.{reflection, turned_bytes}

-- a mirror board, or givens of that form: w × h bytes that equal their own left-right reflection
abbrev pub Mirrored : ℕ → ℕ → List ℕ → Type 0
Mirrored w h bytes = turned_bytes reflection w h bytes ≡ bytes

-- the mark at a place, in reading order from 0, equals its reflection's: column c's reflection is column w + 1 - c, both from 1
abbrev pub same_reflected : ℕ → ℕ → List ℕ → ℕ → Bool
same_reflected w h givens place = eqb (byte_at w h givens (place / w + 1) (place % w + 1)) (byte_at w h givens (place / w + 1) (w - place % w))

-- 15, Lopsided: a cell's mark, free counted, differs from its reflection's, with the first such cell's place
unfoldable pub lopsided_check : ℕ → ℕ → List ℕ → Answer
lopsided_check w h givens = refuse_at (first_not (same_reflected w h givens) (length givens)) 15
