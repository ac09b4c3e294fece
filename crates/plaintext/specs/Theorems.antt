-- Document 01, "Plaintext boards and the program": what is promised of lines, of reading, and of reading what was written.
-- Assumes nothing.
use Rattle.std.specs.Prelude.{◌≡◌, true, false, cond, ◌⊎◌, ℕ, ◌*◌, ◌≤◌, ◌<◌, length, get_or, take, drop, replicate, Result, Ok, Err}
use mathlib.Core.List.{List, [], ◌∷◌, ◌++◌, map, Memᴰ}
use Rattle.board.specs.declared.Refusal.{Refusal}
use Rattle.board.specs.declared.Refusal.TheVariants.{Letter}
use Rattle.board.specs.Answers.{passed}
use Rattle.board.specs.Checks.{board_check}
use Rattle.writer.specs.Letters.{LF, is_letter}
use Rattle.writer.specs.Writing.{board_rows, WritesText}
use Rattle.plaintext.specs.declared.Size.{Size}
use Rattle.plaintext.specs.Lines.{Line, lines_of}
use Rattle.plaintext.specs.Reading.{row, judged, ReadsText}

-- lines joined, each with its LF where one ends it
unfoldable pub joined : List Line → List ℕ
joined [] = []
joined (l ∷ ls) = l.bytes ++ cond l.ended (LF ∷ joined ls) (joined ls)

-- no line holds an LF, and each ends in one, but for a last line that isn't empty
abbrev pub WellCut : List Line → Type 0
WellCut [] = Unit {0}
WellCut (l ∷ ls) = (Memᴰ LF l.bytes → ⊥) × ((l.ended ≡ true) ⊎ ((0 < length l.bytes) × (ls ≡ []))) × WellCut ls

-- the lines of a text are well cut, and joined are the text
abbrev pub CutIntoLines : Type 0
CutIntoLines = (text : List ℕ) → (joined (lines_of text) ≡ text) × WellCut (lines_of text)

-- what a text is read as is a board
abbrev pub ReadsABoard : Type 0
ReadsABoard = (bytes : List ℕ) (at : ℕ) (cells cells' : List ℕ) (w h : ℕ)
    → ReadsText bytes at cells cells' (Ok (record { width = w; height = h })) → board_check w h (take (w * h) cells') ≡ passed

-- the place that comes with refusal 8 is that of a byte of the text, from the reader's place on, that is neither a letter nor LF
abbrev pub BadByte : Type 0
BadByte = (bytes : List ℕ) (at : ℕ) (cells cells' : List ℕ) (p : ℕ)
    → ReadsText bytes at cells cells' (Err (Letter p))
    → (at ≤ p) × (p < length bytes) × (is_letter (get_or bytes p 0) ≡ false) × (get_or bytes p 0 ≡ LF → ⊥)

-- what text out wrote, behind any bytes, is accepted as it is: each of its lines is a row of the board, and none needs filling
abbrev pub AcceptedAsItIs : Type 0
AcceptedAsItIs = (w h : ℕ) (board text text' : List ℕ) (n : ℕ) → WritesText w h board text text' (Ok n)
    → (front : List ℕ)
    → (judged (front ++ take n text') (length front) ≡ map row (board_rows w h board)) × (map length (board_rows w h board) ≡ replicate h w)

-- read from its place on, into room enough, it gives the same width, height and cells, and keeps the cells past them
abbrev pub RoundTrip : Type 0
RoundTrip = (w h : ℕ) (board text text' : List ℕ) (n : ℕ) → WritesText w h board text text' (Ok n)
    → (front cells cells' : List ℕ) (r : Result Size Refusal) → w * h ≤ length cells
    → ReadsText (front ++ take n text') (length front) cells cells' r
    → (r ≡ Ok (record { width = w; height = h })) × (cells' ≡ board ++ drop (w * h) cells)
