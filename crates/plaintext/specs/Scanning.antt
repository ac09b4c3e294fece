-- Document 01, "Plaintext boards and the program", for the inner functions: what they answer while they go through a text line by line, in
-- the terms of `Lines` and `Reading`.
-- Assumes nothing.
use Rattle.std.specs.Prelude.{◌≡◌, ℕ, ◌+◌, ◌≤◌, length, drop, Option, None, Some, IfSome, Result, Ok, Err}
use Rattle.std.specs.Iterator.{YieldsFirstBy}
use Rattle.std.specs.Borrow.{Bor}
use mathlib.Core.List.{List, ◌∷◌, map}
use Rattle.board.specs.declared.Refusal.{Refusal}
use Rattle.board.specs.declared.Refusal.TheVariants.{Letter}
use Rattle.writer.specs.Letters.{letter_cell}
use Rattle.plaintext.specs.declared.Size.{Size}
use Rattle.plaintext.specs.declared.line.Line as held
use Rattle.plaintext.specs.declared.line.Lines as left
use Rattle.plaintext.specs.Lines.{Line, lines_of}
use Rattle.plaintext.specs.Reading.{Judged, comment, row, bad, judge, judged, width_of}

-- a line that the code holds
abbrev pub line_of : held.Line → Line
line_of l = record { bytes = l.bytes.now; ended = l.ended }

-- the same, judged
abbrev pub judged_line : held.Line → Judged
judged_line l = judge l.from (line_of l)

-- the lines that are left, judged
abbrev pub judged_left : left.Lines → List Judged
judged_left s = judged s.text.now s.at

-- a held line is the one that starts at a place of a text: there it begins, and behind its bytes stands its LF, or the text ends
pub record StartsAt (text : List ℕ) (from : ℕ) (l : held.Line) : Type 0 where
  pub place : l.from ≡ from
  pub inside : from + length l.bytes.now ≤ length text
  pub first : lines_of (drop from text) ≡ line_of l ∷ lines_of (drop (from + length l.bytes.now + 1) text)

-- a step gives the first line that is left, if any: it starts at the place, and the next place is behind it and its LF
pub record GivesLine (s : left.Lines) (r : Option held.Line) (t : left.Lines) : Type 0 where
  pub judges : YieldsFirstBy judged_line judged_left s r t
  pub starts : IfSome r (λ l. StartsAt s.text.now s.at l × (t ≡ record { text = s.text; at = l.from + length l.bytes.now + 1 }))

-- the answer for a judged line: nothing for a comment, a row's letters, or the first byte that isn't allowed
abbrev pub Told : Result (Option (Bor (List ℕ))) Refusal → Judged → Type 0
Told (Ok None) line = line ≡ comment
Told (Ok (Some letters)) line = line ≡ row (map letter_cell letters.now)
Told (Err refusal) line = (place : ℕ) × (refusal ≡ Letter place) × (line ≡ bad place)

-- the place of the first byte that isn't allowed, or else the rows' width and height
abbrev pub measure_of : Option ℕ → List (List ℕ) → Result Size Refusal
measure_of (Some place) rows = Err (Letter place)
measure_of None rows = Ok (record { width = width_of rows; height = length rows })
