-- Document 01, "Turned away": when a size, a board, a grid of givens and a target are turned away, in the order of the checks.
-- Assumes nothing.
use Rattle.std.specs.Prelude.{◌≡◌, ◌↔◌, Bool, false, cond, ◌&&◌, List, ℕ, ◌*◌, ◌^◌, eqb, leb, length, get_or}
use Rattle.board.specs.Search.{first_not}
use Rattle.board.specs.Answers.{Answer, ◌then◌, passed, refuse_unless, refuse_at}
use Rattle.board.specs.Boards.{among, max_width, max_height, is_width, Sized, SizedBy, Bytes, Board, Givens}

-- 1, Width: w is 0 or above 10
abbrev pub width_check : ℕ → Answer
width_check w = refuse_unless (among max_width w) 1

-- 2, Height: h is 0 or above 60
abbrev pub height_check : ℕ → Answer
height_check h = refuse_unless (among max_height h) 2

-- 3 for givens and for a target, 5 for a board: not w × h long
abbrev pub length_check : ℕ → ℕ → ℕ → List ℕ → Answer
length_check n w h bytes = refuse_unless (eqb (length bytes) (w * h)) n

-- the byte at a place is at most a limit
abbrev pub at_most : ℕ → List ℕ → ℕ → Bool
at_most most bytes place = leb (get_or bytes place 0) most

-- 4, Mark: a given not 0, 1 or 2, or a target byte not 0 or 1; 11, Cell: a board byte not 0 or 1; with its first place from 0
abbrev pub bytes_check : ℕ → ℕ → List ℕ → Answer
bytes_check n most bytes = refuse_at (first_not (at_most most bytes) (length bytes)) n

-- the entries of a table of h layers: h × 4^w; of a grid's whole table where h is its height
unfoldable pub table_size : ℕ → ℕ → ℕ
table_size w h = h * 4 ^ w

-- that of a width and a height within their limits, and 0 of any other
unfoldable pub table_size_within : ℕ → ℕ → ℕ
table_size_within w h = cond (leb w max_width && leb h max_height) (table_size w h) 0

-- 6, Short table: fewer entries than that
abbrev pub table_check : ℕ → ℕ → List ℕ → Answer
table_check w h table = refuse_unless (leb (table_size w h) (length table)) 6

-- 1, 2 by how rows are held: where they are held as their left halves, 1 is an odd width, 0 or above 20
unfoldable pub size_check : Bool → ℕ → ℕ → Answer
size_check halves w h = refuse_unless (is_width halves w) 1 then height_check h

-- 5, 11
unfoldable pub cells_check : ℕ → ℕ → List ℕ → Answer
cells_check w h cells = length_check 5 w h cells then bytes_check 11 1 cells

-- 3, 4: w × h marks, each at most a limit
unfoldable pub marks_check : ℕ → ℕ → ℕ → List ℕ → Answer
marks_check most w h marks = length_check 3 w h marks then bytes_check 4 most marks

-- of givens: 0, 1 or 2
abbrev pub givens_check : ℕ → ℕ → List ℕ → Answer
givens_check w h marks = marks_check 2 w h marks

-- Req 08, of a target: 0 or 1
abbrev pub target_check : ℕ → ℕ → List ℕ → Answer
target_check w h target = marks_check 1 w h target

-- text out begins with 1, 2, 5, 11
unfoldable pub board_check : ℕ → ℕ → List ℕ → Answer
board_check w h cells = size_check false w h then cells_check w h cells

-- the checks turn away exactly what is no size, no board, no grid of givens, no target
abbrev pub ChecksRight : Type 0
ChecksRight =
    ((w h : ℕ) → size_check false w h ≡ passed ↔ Sized w h) ×
    ((halves : Bool) (w h : ℕ) → size_check halves w h ≡ passed ↔ SizedBy halves w h) ×
    ((w h : ℕ) (cells : List ℕ) → board_check w h cells ≡ passed ↔ Board w h cells) ×
    ((w h : ℕ) (marks : List ℕ) → (size_check false w h then givens_check w h marks) ≡ passed ↔ Givens w h marks) ×
    ((w h : ℕ) (target : List ℕ) → target_check w h target ≡ passed ↔ Bytes 1 w h target)
