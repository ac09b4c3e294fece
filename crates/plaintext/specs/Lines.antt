-- Document 01, "Plaintext boards and the program": a text cut into lines.
-- Assumes nothing.
use Rattle.std.specs.Prelude.{Bool, true, false, cond, List, [], ◌∷◌, ℕ, eqb}
use Rattle.writer.specs.Letters.{LF}

-- a line: its bytes without its LF, and whether an LF ends it
pub record Line : Type 0 where
  pub bytes : List ℕ
  pub ended : Bool

-- the line that an LF alone makes
abbrev pub empty_line : Line
empty_line = record { bytes = []; ended = true }

-- lines with one byte more in front of the first; where there is no line, that byte is a line without LF
abbrev pub in_front : ℕ → List Line → List Line
in_front b [] = record { bytes = b ∷ []; ended = false } ∷ []
in_front b (l ∷ ls) = record { bytes = b ∷ l.bytes; ended = l.ended } ∷ ls

-- "Lines end in LF"; "A last line without LF counts if it isn't empty": after the last LF there is a line only where a byte follows
unfoldable pub lines_of : List ℕ → List Line
lines_of [] = []
lines_of (b ∷ text) = cond (eqb b LF) (empty_line ∷ lines_of text) (in_front b (lines_of text))
