-- Laws of cells that are 0 or 1, and of rows of them: the rows of a text are such, and the rows of a board.
-- Assumes nothing.
use mathlib.Core.Bool.{Bool, true, false, cond}
use Rattle.std.specs.Prelude.{Option, None, Some}
use mathlib.Core.List.{List, [], ◌∷◌, ◌++◌, map, flat_map}
use Prim.Native.Nat.{ℕ, zero, suc, ◌+◌, ◌-◌, ◌<◌, ◌≤◌, zero-le, suc-le-suc}
use native.Mathlib.Nat.{not-suc-le-zero, le_of_suc-le-suc, zero-lt-suc}
use native.Mathlib.Omega.{arith}
use lib.Dec.{eqb}
use lib.ListN.{length, get_or, take, drop, replicate}
use Rattle.board.specs.Search.{first_not}
use Rattle.writer.specs.Letters.{big_o, letter_cell}
use Rattle.writer.specs.Writing.{board_rows}
use Rattle.plaintext.specs.Lines.{Line}
use Rattle.plaintext.specs.Reading.{Judged, comment, is_comment, without_cr, letter_at, judge_row, judge, judge_lines, rows_of, filled, cells_of}

abbrev pub AllCells : List ℕ → Type 0
AllCells [] = Unit {0}
AllCells (c ∷ cs) = (c ≤ 1) × AllCells cs

abbrev pub AllRows : List (List ℕ) → Type 0
AllRows [] = Unit {0}
AllRows (r ∷ rs) = AllCells r × AllRows rs

-- ---- by place
pub all_of : (l : List ℕ) → ((k : ℕ) → k < length l → get_or l k 0 ≤ 1) → AllCells l
all_of [] h = tt
all_of (c ∷ cs) h = (h 0 (zero-lt-suc (length cs)), all_of cs (λ k l. h (suc k) (suc-le-suc l)))

pub all_at : (l : List ℕ) → AllCells l → (k : ℕ) → k < length l → get_or l k 0 ≤ 1
all_at [] a k h = absurd (not-suc-le-zero h)
all_at (c ∷ cs) a zero h = a.0
all_at (c ∷ cs) a (suc k) h = all_at cs a.1 k (le_of_suc-le-suc h)

-- ---- parts, and lists put together
all_take : (n : ℕ) (l : List ℕ) → AllCells l → AllCells (take n l)
all_take zero l a = tt
all_take (suc n) [] a = tt
all_take (suc n) (c ∷ cs) a = (a.0, all_take n cs a.1)

all_drop : (n : ℕ) (l : List ℕ) → AllCells l → AllCells (drop n l)
all_drop zero l a = a
all_drop (suc n) [] a = tt
all_drop (suc n) (c ∷ cs) a = all_drop n cs a.1

all_append : (l m : List ℕ) → AllCells l → AllCells m → AllCells (l ++ m)
all_append [] m a b = b
all_append (c ∷ cs) m a b = (a.0, all_append cs m a.1 b)

all_dead : (n : ℕ) → AllCells (replicate n 0)
all_dead zero = tt
all_dead (suc n) = (zero-le, all_dead n)

-- ---- the rows of a board
pub board_all : (w h : ℕ) (b : List ℕ) → AllCells b → AllRows (board_rows w h b)
unfolding board_rows
board_all w zero b a = tt
board_all w (suc h) b a = (all_take w b a, board_all w h (drop w b) (all_drop w b a))

-- ---- the rows of a text, and their cells
letters_all : (l : List ℕ) → AllCells (map letter_cell l)
letters_all [] = tt
letters_all (b ∷ l) = (small (eqb b big_o), letters_all l)
  where
    small : (t : Bool) → cond t 1 0 ≤ 1
    small true = omega arith
    small false = zero-le

pub text_all : (at : ℕ) (ls : List Line) → AllRows (rows_of (judge_lines at ls))
unfolding judge_lines rows_of judge
text_all at [] = tt
text_all at (l ∷ ls) = more (is_comment l.bytes) (first_not (letter_at (without_cr l)) (length (without_cr l))) (judge_lines (at + length l.bytes + 1) ls) (text_all (at + length l.bytes + 1) ls)
  where
    more : (t : Bool) (o : Option ℕ) (js : List Judged) → AllRows (rows_of js) → AllRows (rows_of (cond t comment (judge_row at (without_cr l) o) ∷ js))
    more true o js a = a
    more false None js a = (letters_all (without_cr l), a)
    more false (Some p) js a = a

pub cells_all : (w : ℕ) (rs : List (List ℕ)) → AllRows rs → AllCells (cells_of w rs)
unfolding cells_of flat_map filled
cells_all w [] a = tt
cells_all w (r ∷ rs) a = all_append (r ++ replicate (w - length r) 0) (cells_of w rs) (all_append r (replicate (w - length r) 0) a.0 (all_dead (w - length r))) (cells_all w rs a.1)
