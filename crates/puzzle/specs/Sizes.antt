-- Document 01, "Plaintext boards and the program": the sizes of the program's text and memory, and the kind of its jobs.
-- Assumes nothing.
use Rattle.std.specs.Prelude.{◌≡◌, Bool, ◌&&◌, ◌↔◌, List, [], ℕ, ◌+◌, ◌≤◌, eqb, length}
use Rattle.board.specs.Answers.{refuses}
use Rattle.board.specs.Checks.{table_check}
use Rattle.job_kind.specs.Kinds.{layers_of}
use Rattle.job_kind.specs.declared.Kind.{Kind}

-- 12, Long text: "program's input over 4,096 bytes"
abbrev pub longest_text : ℕ
longest_text = 4096

-- what the program asks for: one byte more, to tell a longer text
abbrev pub text_room : ℕ
text_room = longest_text + 1

-- "600 cells each for givens and board"
abbrev pub cell_room : ℕ
cell_room = 600

-- "32,768 table entries"
abbrev pub entry_room : ℕ
entry_room = 32768

-- Req 05, the kind of the program's jobs
abbrev pub program_kind : Kind
program_kind = Kind.TwoLayers

-- In a table of that size check 6, the last that the program makes, refuses exactly the grids of width 8 and above, whatever their height.
abbrev pub WideRefused : Type 0
WideRefused = (w h : ℕ) (table : List ℕ) → length table ≡ entry_room → table_check w (layers_of program_kind h) table ≡ refuses 6 [] ↔ (8 ≤ w)

-- the longest that is printed: `!`, a score of three digits and LF, then 60 rows of 10 letters and LF
abbrev pub output_room : ℕ
output_room = 665

-- givens, table, board and output have these sizes
abbrev pub program_sizes : ℕ → ℕ → ℕ → ℕ → Bool
program_sizes givens table board output = eqb givens cell_room && eqb table entry_room && eqb board cell_room && eqb output output_room
