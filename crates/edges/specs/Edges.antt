-- Req 04: edge threes, and when a grid is turned away for one.
-- Assumes nothing.
use Rattle.std.specs.Prelude.{Bool, cond, not, ◌&&◌, ◌||◌, List, ℕ, ◌+◌, ◌-◌, ◌/◌, ◌%◌, eqb, length, Option, None}
use Rattle.board.specs.Answers.{Answer, refuse_at}
use Rattle.board.specs.Boards.{byte_at}
use Rattle.board.specs.Search.{first_not}
use Rattle.rule.specs.Rule.{has_count}
use Rattle.rule.specs.declared.Rule.{Rule}

-- the cell in row r and column c, both from 1, is given live; no cell outside the grid is
unfoldable pub given_live_at : ℕ → ℕ → List ℕ → ℕ → ℕ → Bool
given_live_at w h givens r c = eqb (byte_at w h givens r c) 2

-- the first or the last of n rows or columns
abbrev pub at_edge : ℕ → ℕ → Bool
at_edge n i = eqb i 1 || eqb i n

-- along row 1 or row h a cell's two neighbours are given live
abbrev pub along_row : ℕ → ℕ → List ℕ → ℕ → ℕ → Bool
along_row w h givens r c = at_edge h r && given_live_at w h givens r (c - 1) && given_live_at w h givens r (c + 1)

-- and along column 1 or column w
abbrev pub along_column : ℕ → ℕ → List ℕ → ℕ → ℕ → Bool
along_column w h givens r c = at_edge w c && given_live_at w h givens (r - 1) c && given_live_at w h givens (r + 1) c

-- the middle of an edge three: the cell and its two neighbours along an edge are given live
unfoldable pub edge_three : ℕ → ℕ → List ℕ → ℕ → ℕ → Bool
edge_three w h givens r c = (along_row w h givens r c || along_column w h givens r c) && given_live_at w h givens r c

-- a place in reading order, from 0, is that of such a cell
abbrev pub edge_three_at : ℕ → ℕ → List ℕ → ℕ → Bool
edge_three_at w h givens place = edge_three w h givens (place / w + 1) (place % w + 1)

-- the first such place
abbrev pub first_edge_three : ℕ → ℕ → List ℕ → Option ℕ
first_edge_three w h givens = first_not (λ place. not (edge_three_at w h givens place)) (length givens)

-- the rule has birth on 3
abbrev pub born_on3 : Rule → Bool
born_on3 rule = eqb (has_count rule.births 3) 1

-- 14, Edge three: under a rule with birth on 3, with the first such cell's place
unfoldable pub edge_check : Rule → ℕ → ℕ → List ℕ → Answer
edge_check rule w h givens = refuse_at (cond (born_on3 rule) (first_edge_three w h givens) None) 14
