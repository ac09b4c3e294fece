-- Document 01, "Grid, row word, givens", and Req 06 of widths: sizes, boards and grids of givens.
-- Assumes nothing.
use Rattle.std.specs.Prelude.{◌≡◌, Bool, true, false, cond, ◌&&◌, List, ℕ, ◌+◌, ◌*◌, ◌-◌, ◌/◌, ◌%◌, ◌≤◌, ◌<◌, eqb, leb, length, get_or}

-- i is one of 1 to n
abbrev pub among : ℕ → ℕ → Bool
among n i = leb 1 i && leb i n

-- the most columns and rows
abbrev pub max_width : ℕ
max_width = 10

abbrev pub max_height : ℕ
max_height = 60

-- the most columns where rows are held as their left halves
abbrev pub max_mirror_width : ℕ
max_mirror_width = 2 * max_width

-- the binary digits of a row's number; a row may be held as its left half
abbrev pub row_digits : Bool → ℕ → ℕ
row_digits halves w = cond halves (w / 2) w

-- a width is at most 10; where rows are held as their left halves it is even and at most 20
abbrev pub width_fits : Bool → ℕ → Bool
width_fits true w = eqb (w % 2) 0 && leb w max_mirror_width
width_fits false w = leb w max_width

-- and it isn't 0
abbrev pub is_width : Bool → ℕ → Bool
is_width halves w = leb 1 w && width_fits halves w

-- what fits, in other words: a row's number has at most 10 binary digits, and a left half stands for two cells with each
pub record Width (halves : Bool) (w : ℕ) : Type 0 where
  pub narrow : row_digits halves w ≤ max_width
  pub even : halves ≡ true → w % 2 ≡ 0

-- a size by how rows are held: such a width from 1 on, height 1 to 60
pub record SizedBy (halves : Bool) (w h : ℕ) : Type 0 where
  pub some_column : 0 < w
  pub width : Width halves w
  pub some_row : 0 < h
  pub low : h ≤ max_height

-- a size: width 1 to 10, height 1 to 60
pub record Sized (w h : ℕ) : Type 0 where
  pub some_column : 0 < w
  pub narrow : w ≤ max_width
  pub some_row : 0 < h
  pub low : h ≤ max_height

-- w × h bytes in reading order, each at most a limit
pub record Bytes (most w h : ℕ) (bytes : List ℕ) : Type 0 where
  pub long : length bytes ≡ w * h
  pub states : (k : ℕ) → k < length bytes → get_or bytes k 0 ≤ most

-- the byte in row r and column c, both from 1; 0 in every other row and column
abbrev pub byte_at : ℕ → ℕ → List ℕ → ℕ → ℕ → ℕ
byte_at w h bytes r c = cond (among h r && among w c) (get_or bytes ((r - 1) * w + (c - 1)) 0) 0

-- a board: its cells, 0 dead, 1 live
pub record Board (w h : ℕ) (cells : List ℕ) : Type 0 where
  pub size : Sized w h
  pub bytes : Bytes 1 w h cells

-- a grid of givens: its marks, 0 free, 1 given dead, 2 given live
pub record Givens (w h : ℕ) (marks : List ℕ) : Type 0 where
  pub size : Sized w h
  pub bytes : Bytes 2 w h marks
