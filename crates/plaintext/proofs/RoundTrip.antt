-- What text out writes, text in reads back: each row's text is a line, judged as that row.
-- Assumes nothing.
use mathlib.Core.Path.{◌≡◌, refl, sym, ap, ap₂, ◌∙◌}
use mathlib.Core.Bool.{Bool, true, false, cond}
use Rattle.std.specs.Prelude.{None, Result, Ok, Err}
use mathlib.Core.List.{List, [], ◌∷◌, ◌++◌, map, flat_map, append-nil}
use Prim.Native.Nat.{ℕ, zero, suc, ◌+◌, ◌*◌, ◌-◌, ◌<◌, ◌≤◌}
use native.Mathlib.Nat.{not-suc-le-zero, le_of_suc-le-suc, zero-lt-suc, mul-zero}
use native.Mathlib.Omega.{arith}
use borrow.Author.Tests.{le-leb}
use lib.Dec.{eqb, leb}
use lib.ListN.{length, get_or, take, drop, replicate, take-append-drop}
use lib.Seq.{take_at, drop-append_seam, length-take-le}
use Rattle.board.specs.declared.Refusal.{Refusal}
use Rattle.board.specs.Answers.{gives, passed, refuse_unless}
use Rattle.board.specs.Boards.{Board}
use Rattle.board.specs.Checks.{width_check, height_check, size_check, board_check}
use Rattle.board.proofs.Search.{none_of}
use Rattle.board.proofs.Answers.{refuses_none, then_gives}
use Rattle.board.proofs.Checks.{size_passes, boarded}
use Rattle.writer.specs.Letters.{CR, bang, dot, big_o, is_letter, letter_cell, letter_of}
use Rattle.writer.specs.Writing.{board_rows, row_text, board_text, text_length, write_rule, text_over, WritesText}
use Rattle.writer.proofs.BoardRows.{rest_long, board_text_long}
use Rattle.plaintext.specs.declared.Size.{Size}
use Rattle.plaintext.specs.Lines.{Line, lines_of}
use Rattle.plaintext.specs.Reading.{Judged, row, is_comment, letter_at, judge, judge_lines, judged, first_bad, rows_of, width_of, filled, cells_of, size_rule, read_rule, board_over, read_says}
use Rattle.plaintext.specs.Theorems.{AcceptedAsItIs, RoundTrip}
use Rattle.plaintext.proofs.Cells.{AllCells, AllRows, all_of, board_all}
use Rattle.plaintext.proofs.Cutting.{added}

-- ---- a row's text as a line
abbrev line_of : List ℕ → Line
line_of r = record { bytes = map letter_of r; ended = true }

-- a letter is . or O
letter_cases : (P : ℕ → Type 0) → P dot → P big_o → (t : Bool) → P (cond t dot big_o)
letter_cases P d o true = d
letter_cases P d o false = o

row_line : (r t : List ℕ) → lines_of (row_text r ++ t) ≡ line_of r ∷ lines_of t
unfolding lines_of row_text
row_line [] t = refl
row_line (c ∷ cs) t =
    rw (row_line cs t)
    (letter_cases (λ (b : ℕ). added b (line_of cs ∷ lines_of t) ≡ record { bytes = b ∷ map letter_of cs; ended = true } ∷ lines_of t) refl refl (eqb c 0))

no_bang : (r : List ℕ) → is_comment (map letter_of r) ≡ false
no_bang [] = refl
no_bang (c ∷ cs) = letter_cases (λ (b : ℕ). eqb b bang ≡ false) refl refl (eqb c 0)

no_cr : (r : List ℕ) (k : ℕ) → eqb (get_or (map letter_of r) k 0) CR ≡ false
no_cr [] k = refl
no_cr (c ∷ cs) zero = letter_cases (λ (b : ℕ). eqb b CR ≡ false) refl refl (eqb c 0)
no_cr (c ∷ cs) (suc k) = no_cr cs k

all_letters : (r : List ℕ) (k : ℕ) → k < length (map letter_of r) → letter_at (map letter_of r) k ≡ true
all_letters [] k h = absurd (not-suc-le-zero h)
all_letters (c ∷ cs) zero h = letter_cases (λ (b : ℕ). is_letter b ≡ true) refl refl (eqb c 0)
all_letters (c ∷ cs) (suc k) h = all_letters cs k (le_of_suc-le-suc h)

cell_back : (c : ℕ) → c ≤ 1 → letter_cell (letter_of c) ≡ c
cell_back zero h = refl
cell_back (suc zero) h = refl
cell_back (suc (suc c)) h = absurd (not-suc-le-zero (le_of_suc-le-suc h))

cells_back : (r : List ℕ) → AllCells r → map letter_cell (map letter_of r) ≡ r
cells_back [] a = refl
cells_back (c ∷ cs) a = ap₂ {C = List ℕ} (λ x xs. x ∷ xs) (cell_back c a.0) (cells_back cs a.1)

judge_row_lem : (at : ℕ) (r : List ℕ) → AllCells r → judge at (line_of r) ≡ row r
unfolding judge
judge_row_lem at r a =
    let l = map letter_of r in
    rw (no_bang r, no_cr r (length l - 1), none_of (letter_at l) (length l) (all_letters r), cells_back r a)

-- the text of rows is judged as those rows
judge_rows : (at : ℕ) (rs : List (List ℕ)) → AllRows rs → judge_lines at (lines_of (flat_map row_text rs)) ≡ map row rs
unfolding judge_lines lines_of flat_map
judge_rows at [] a = refl
judge_rows at (r ∷ rs) a =
    rw (row_line r (flat_map row_text rs), judge_row_lem at r a.0)
    (ap {B = List Judged} (λ js. row r ∷ js) (judge_rows (at + length (line_of r).bytes + 1) rs a.1))

-- ---- judged lines that are all rows
none_bad : (rs : List (List ℕ)) → first_bad (map row rs) ≡ None
unfolding first_bad
none_bad [] = refl
none_bad (r ∷ rs) = none_bad rs

rows_back : (rs : List (List ℕ)) → rows_of (map row rs) ≡ rs
unfolding rows_of
rows_back [] = refl
rows_back (r ∷ rs) = ap {B = List (List ℕ)} (λ x. r ∷ x) (rows_back rs)

-- ---- the rows of a board
module _ (w : ℕ) where
  whole_rows : (h : ℕ) (b : List ℕ) → length b ≡ w * h → map length (board_rows w h b) ≡ replicate h w
  unfolding board_rows
  whole_rows zero b e = refl
  whole_rows (suc h) b e = let s = rest_long w h b e in ap₂ {C = List ℕ} (λ x xs. x ∷ xs) (length-take-le w b s.0) (whole_rows h (drop w b) s.1)

  board_high : (h : ℕ) (b : List ℕ) → length (board_rows w h b) ≡ h
  unfolding board_rows
  board_high zero b = refl
  board_high (suc h) b = ap suc (board_high h (drop w b))

  board_wide : (h : ℕ) (b : List ℕ) → 0 < h → length b ≡ w * h → width_of (board_rows w h b) ≡ w
  unfolding board_rows width_of
  board_wide zero b p e = absurd (not-suc-le-zero p)
  board_wide (suc zero) b p e = let s = rest_long w 0 b e in let n = length-take-le w b s.0 in omega arith
  board_wide (suc (suc h)) b p e =
      let s = rest_long w (suc h) b e in
      let n = length-take-le w b s.0 in
      let i = board_wide (suc h) (drop w b) (zero-lt-suc h) s.1 in
      omega arith

  -- no row is filled
  whole_row_lem : (b : List ℕ) → w ≤ length b → filled w (take w b) ≡ take w b
  unfolding filled
  whole_row_lem b h = let z : w - w ≡ 0 = omega arith in rw (length-take-le w b h, z) (append-nil (take w b))

  board_cells : (h : ℕ) (b : List ℕ) → length b ≡ w * h → cells_of w (board_rows w h b) ≡ b
  unfolding board_rows cells_of flat_map
  board_cells zero [] e = refl
  board_cells zero (x ∷ b) e = let z = mul-zero w in absurd (omega arith)
  board_cells (suc h) b e = let s = rest_long w h b e in rw (whole_row_lem b s.0, board_cells h (drop w b) s.1) (take-append-drop w b)

-- ---- a board that text out took, and what it wrote
module _ (w h : ℕ) (board text text' : List ℕ) (n : ℕ) (c : WritesText w h board text text' (Ok n)) where
  taken : Board w h board
  unfolding write_rule
  taken = boarded w h board (then_gives (board_check w h board) _ (sym c.answers)).0.1

  length_is : n ≡ text_length w h
  unfolding write_rule
  length_is =
      let p = then_gives (board_check w h board) _ (sym c.answers) in
      let q = then_gives (refuse_unless (leb (text_length w h) (length text)) 10) _ p.1 in
      cc q.1

  wrote : take n text' ≡ board_text w h board
  unfolding text_over
  wrote =
      let held : text' ≡ board_text w h board ++ drop (text_length w h) text = rw (← c.answers) at c.leaves in
      rw (held, length_is) (take_at (board_text w h board) (drop (text_length w h) text) (text_length w h) (board_text_long w h board taken.bytes.long))

  lines : (front : List ℕ) → judged (front ++ take n text') (length front) ≡ map row (board_rows w h board)
  unfolding judged board_text
  lines front =
      rw (wrote, drop-append_seam front (flat_map row_text (board_rows w h board)))
      (judge_rows (length front) (board_rows w h board) (board_all w h board (all_of board taken.bytes.states)))

pub accepted_as_it_is : AcceptedAsItIs
accepted_as_it_is w h board text text' n c front = (lines w h board text text' n c front, whole_rows w h board (taken w h board text text' n c).bytes.long)

-- an answer that gives a size is that of a board
gave_size : (r : Result Size Refusal) (w h : ℕ) → read_says r ≡ gives (w ∷ h ∷ []) → r ≡ Ok (record { width = w; height = h })
gave_size (Ok size) w h e = let x : size.width ≡ w = cc in let y : size.height ≡ h = cc in rw (← x, ← y)
gave_size (Err r) w h e = absurd (refuses_none e)

pub round_trip : RoundTrip
unfolding read_rule size_rule board_over size_check
round_trip w h board text text' n c front cells cells' r room d =
    let b = taken w h board text text' n c in
    let s = b.size in
    let rows : rows_of (judged (front ++ take n text') (length front)) ≡ board_rows w h board = rw (lines w h board text text' n c front) (rows_back (board_rows w h board)) in
    let good : first_bad (judged (front ++ take n text') (length front)) ≡ None = rw (lines w h board text text' n c front) (none_bad (board_rows w h board)) in
    let high = board_high w h board in
    let wide = board_wide w h board s.some_row b.bytes.long in
    let checks : size_check false w h ≡ passed = size_passes s in
    let fits = then_gives (width_check w) (height_check h) checks in
    let answer : read_rule (front ++ take n text') (length front) (length cells) ≡ gives (w ∷ h ∷ [])
    = rw (good, rows, high, wide, fits.1, fits.0.1, le-leb _ _ room) in (
      gave_size r w h (d.answers ∙ answer),
      rw (answer, rows, high, wide, board_cells w h board b.bytes.long) at d.leaves,
    )
