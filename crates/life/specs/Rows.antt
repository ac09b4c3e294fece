-- Document 01, "Three rows". A row is its number: its cells as binary digits, leftmost most significant.
-- Assumes nothing.
use Rattle.std.specs.Prelude.{◌≡◌, Bool, true, cond, List, ℕ, zero, suc, ◌+◌, ◌*◌, ◌-◌, ◌/◌, ◌%◌, ◌^◌, ◌<◌, eqb, ℤ, pos, negsuc, get_or}
use Rattle.board.specs.Search.{all_below}
use Rattle.board.specs.Boards.{among}
use Rattle.life.specs.Plane.{nine}

-- the number that n cells read as from a place on
unfoldable pub row_number : List ℕ → ℕ → ℕ → ℕ
row_number cells place zero = 0
row_number cells place (suc n) = 2 * row_number cells place n + get_or cells (place + n) 0

-- row r of a board, rows 1 to h; row 0 and those past row h are 0
unfoldable pub row_of : ℕ → ℕ → List ℕ → ℕ → ℕ
row_of w h cells r = cond (among h r) (row_number cells ((r - 1) * w) w) 0

-- the binary digit of a number that is worth 2^i
abbrev pub digit_at : ℕ → ℕ → ℕ
digit_at n i = n / 2 ^ i % 2

-- the binary digit of a row in column c, 1 to w
abbrev pub digit_in : ℕ → ℕ → ℕ → ℕ
digit_in w row c = digit_at row (w - c)

-- the cell of a row in each column; columns outside 1 to w are dead
unfoldable pub cell_of : ℕ → ℕ → ℤ → ℕ
cell_of w row (pos c) = cond (among w c) (digit_in w row c) 0
cell_of w row (negsuc c) = 0

-- columns c - 1, c and c + 1 of a row, as three digits, from its number
abbrev pub window : ℕ → ℕ → ℕ → ℕ
window w row c = 4 * row / 2 ^ (w + 1 - c) % 8

-- with a over b over c, the cell of b in column j becomes that of t
unfoldable pub becomes : (ℕ → ℕ) → ℕ → ℕ → ℕ → ℕ → ℕ → ℕ → Bool
becomes next w a b c t j = eqb (next (nine (cell_of w a) (cell_of w b) (cell_of w c) (pos j))) (cell_of w t (pos j))

-- rows a, b, c step to row t in the middle, and the ring beside it stays dead: columns 0 to w + 1
unfoldable pub steps_to : (ℕ → ℕ) → ℕ → ℕ → ℕ → ℕ → ℕ → Bool
steps_to next w a b c t = all_below (becomes next w a b c t) (w + 2)

-- rows a, b, c agree: every cell of b in columns 0 to w + 1 keeps its state
abbrev pub agree : (ℕ → ℕ) → ℕ → ℕ → ℕ → ℕ → Bool
agree next w a b c = steps_to next w a b c b

-- rows (0, 0, first), every three neighbouring rows counted with rows 0 and h + 1, and (last, 0, 0) agree
pub record RowsAgree (next : ℕ → ℕ) (w h : ℕ) (cells : List ℕ) : Type 0 where
  pub first : agree next w 0 0 (row_of w h cells 1) ≡ true
  pub each : (r : ℕ) → r < h → agree next w (row_of w h cells r) (row_of w h cells (r + 1)) (row_of w h cells (r + 2)) ≡ true
  pub last : agree next w (row_of w h cells h) 0 0 ≡ true

-- rows (0, 0, first) step to row 0, every three neighbouring rows counted with rows 0 and h + 1 to the target's row in the middle, and
-- (last, 0, 0) to row 0
pub record RowsStepTo (next : ℕ → ℕ) (w h : ℕ) (cells target : List ℕ) : Type 0 where
  pub first : steps_to next w 0 0 (row_of w h cells 1) 0 ≡ true
  pub each : (r : ℕ) → r < h → steps_to next w (row_of w h cells r) (row_of w h cells (r + 1)) (row_of w h cells (r + 2)) (row_of w h target (r + 1)) ≡ true
  pub last : steps_to next w (row_of w h cells h) 0 0 0 ≡ true
