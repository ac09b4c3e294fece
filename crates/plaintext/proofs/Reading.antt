-- What is read is a board: its rows' cells are 0 or 1 and filled to its width, and its size passed the checks. What is refused with 8 is a
-- byte of the text that isn't allowed: it stands in the line that was judged bad.
-- Assumes nothing.
use mathlib.Core.Path.{◌≡◌, refl, sym, ap, ◌∙◌}
use mathlib.Core.Bool.{Bool, true, false, cond}
use mathlib.Core.Logic.{⊎_elim}
use Rattle.std.specs.Prelude.{Option, None, Some, Ok}
use mathlib.Core.List.{List, [], ◌∷◌, ◌++◌, Memᴰ}
use Prim.Native.Nat.{ℕ, zero, suc, ◌+◌, ◌*◌, ◌<◌}
use native.Mathlib.Nat.{not-suc-le-zero, le_of_suc-le-suc}
use native.Mathlib.Omega.{arith}
use lib.Dec.{leb}
use lib.ListN.{length, get_or, take, drop, length-append, length-drop, get_or-append}
use lib.Seq.{take_at, get_or-take, get_or-drop, get_or-append-add}
use Rattle.board.specs.Search.{first_not}
use Rattle.board.specs.Answers.{gives, refuses, refuse_unless, refuse_at, ◌then◌}
use Rattle.board.specs.Boards.{among, Sized, max_width, max_height}
use Rattle.board.specs.Checks.{width_check, height_check}
use Rattle.board.proofs.Search.{Searched, searched, fails_at}
use Rattle.board.proofs.Answers.{then_gives}
use Rattle.board.proofs.Checks.{board_passes}
use Rattle.writer.specs.Letters.{LF, is_letter}
use Rattle.plaintext.specs.Lines.{Line, lines_of}
use Rattle.plaintext.specs.Reading.{Judged, comment, row, bad, is_comment, without_cr, letter_at, judge_row, judge, judge_lines, judged, first_bad, rows_of, width_of, cells_of, size_rule, read_rule, board_over, ReadsText}
use Rattle.plaintext.specs.Theorems.{joined, WellCut, ReadsABoard, BadByte}
use Rattle.plaintext.proofs.RowCells.{cells_long}
use Rattle.plaintext.proofs.Lines.{row_first}
use Rattle.plaintext.proofs.Answers.{checked_size}
use Rattle.plaintext.proofs.Cells.{all_at, text_all, cells_all}
use Rattle.plaintext.proofs.Cutting.{cut_into_lines}

-- ---- what is read is a board
-- an answer that gives a size tells that the rows have it, and that it passed its checks
record Sizes (rows : List (List ℕ)) (w h : ℕ) : Type 0 where
  wide : width_of rows ≡ w
  high : length rows ≡ h
  size : Sized w h

sizes : (rows : List (List ℕ)) (room w h : ℕ) → size_rule rows room ≡ gives (w ∷ h ∷ []) → Sizes rows w h
unfolding size_rule
sizes rows room w h e =
    let p = then_gives (height_check (length rows)) _ e in
    let q = then_gives (width_check (width_of rows)) _ p.1 in
    let r = then_gives (refuse_unless (leb (width_of rows * length rows) room) 5) _ q.1 in
    let x : width_of rows ≡ w = cc r.1 in
    let y : length rows ≡ h = cc r.1 in
    record { wide = x; high = y; size = rw (x, y) at (checked_size (width_of rows) (length rows) p.0.1 q.0.1) }

-- and the cells that were written
module _ (bytes : List ℕ) (at : ℕ) (cells cells' : List ℕ) (w h : ℕ) (c : ReadsText bytes at cells cells' (Ok (record { width = w; height = h }))) where
  abbrev rows : List (List ℕ)
  rows = rows_of (judged bytes at)

  read_sizes : Sizes rows w h
  unfolding read_rule
  read_sizes = sizes rows (length cells) w h (then_gives (refuse_at (first_bad (judged bytes at)) 8) _ (sym c.answers)).1

  read_long : length (cells_of w rows) ≡ w * h
  read_long = rw (← read_sizes.high) (cells_long w rows (omega (arith, read_sizes.wide)))

  read_part : take (w * h) cells' ≡ cells_of w rows
  unfolding board_over
  read_part =
      let s = read_sizes in
      let held : cells' ≡ cells_of w rows ++ drop (w * h) cells = rw (← c.answers, s.wide, s.high) at c.leaves in
      rw held (take_at (cells_of w rows) (drop (w * h) cells) (w * h) read_long)

  pub read_cells : take (w * h) cells' ≡ cells_of (width_of rows) rows
  read_cells = rw read_sizes.wide read_part

pub reads_a_board : ReadsABoard
unfolding judged
reads_a_board bytes at cells cells' w h c =
    board_passes
    (rw (read_part bytes at cells cells' w h c)
    record {
      size = (read_sizes bytes at cells cells' w h c).size;
      bytes =
          record {
            long = read_long bytes at cells cells' w h c;
            states = all_at (cells_of w _) (cells_all w _ (text_all at (lines_of (drop at bytes))));
          };
    })

-- ---- what is refused with 8 is a byte that isn't allowed
-- place k of a text holds neither a letter nor LF
record NotAllowed (text : List ℕ) (k : ℕ) : Type 0 where
  inside : k < length text
  no_letter : is_letter (get_or text k 0) ≡ false
  no_lf : get_or text k 0 ≡ LF → ⊥

member : (l : List ℕ) (k : ℕ) → k < length l → Memᴰ (get_or l k 0) l
member [] k h = absurd (not-suc-le-zero h)
member (x ∷ l) zero h = Memᴰ.head refl
member (x ∷ l) (suc k) h = Memᴰ.tail (member l k (le_of_suc-le-suc h))

-- a line's bad byte, with any bytes after the line
bad_here : (at p : ℕ) (l : Line) (rest : List ℕ) → (Memᴰ LF l.bytes → ⊥) → judge at l ≡ bad p → (k : ℕ) × (p ≡ at + k) × NotAllowed (l.bytes ++ rest) k
unfolding judge
bad_here at p l rest clean e = go (is_comment l.bytes) (first_not (letter_at (without_cr l)) (length (without_cr l))) (searched (letter_at (without_cr l)) (length (without_cr l))) e
  where
    go : (t : Bool) (o : Option ℕ) → Searched (letter_at (without_cr l)) (length (without_cr l)) o → cond t comment (judge_row at (without_cr l) o) ≡ bad p
        → (k : ℕ) × (p ≡ at + k) × NotAllowed (l.bytes ++ rest) k
    go true o s e = absurd (cc)
    go false None s e = absurd (cc)
    go false (Some k) (fails_at _ h f _) e =
        let r = row_first l in
        let same : get_or (without_cr l) k 0 ≡ get_or l.bytes k 0 = rw r.0 at (get_or-take (length (without_cr l)) l.bytes k 0 h) in
        let inside : k < length l.bytes = omega arith in
        let first : get_or (l.bytes ++ rest) k 0 ≡ get_or l.bytes k 0 = get_or-append l.bytes rest 0 k inside in
        let q : p ≡ at + k = cc in (
          k,
          q,
          record {
            inside = rw (length-append l.bytes rest) (omega arith);
            no_letter = rw (first, ← same) f;
            no_lf = λ z. clean (rw (sym first ∙ z) at (member l.bytes k inside));
          },
        )

-- a bad byte of the lines after a line, which an LF ends
bad_later : (at p : ℕ) (l : Line) (ls : List Line) → WellCut (l ∷ ls) → first_bad (judge_lines (at + length l.bytes + 1) ls) ≡ Some p
    → ((k : ℕ) × (p ≡ at + length l.bytes + 1 + k) × NotAllowed (joined ls) k) → (k : ℕ) × (p ≡ at + k) × NotAllowed (joined (l ∷ ls)) k
unfolding joined judge_lines first_bad
bad_later at p l ls c e i =
    ⊎_elim
    (λ (ended : l.ended ≡ true).
    let k = i.0 in
    let n = i.2 in
    let on : get_or (l.bytes ++ LF ∷ joined ls) (length l.bytes + suc k) 0 ≡ get_or (joined ls) k 0 = get_or-append-add l.bytes (LF ∷ joined ls) (suc k) 0 in (
      length l.bytes + suc k,
      omega (arith, i.1),
      rw ended
          record {
            inside = rw (length-append l.bytes (LF ∷ joined ls)) (omega (arith, n.inside));
            no_letter = rw on n.no_letter;
            no_lf = λ z. n.no_lf (sym on ∙ z);
          },
    ))
    (λ (last : (0 < length l.bytes) × (ls ≡ [])).
    let none_left : None ≡ Some p = rw last.1 at e in
    absurd (cc none_left))
    c.1

bad_in : (ls : List Line) → WellCut ls → (at p : ℕ) → first_bad (judge_lines at ls) ≡ Some p → (k : ℕ) × (p ≡ at + k) × NotAllowed (joined ls) k
unfolding judge_lines first_bad joined
bad_in [] c at p e = absurd (cc)
bad_in (l ∷ ls) c at p e = go l ls c at p (judge at l) refl e (bad_in ls c.2 (at + length l.bytes + 1) p)
  where
    go : (l : Line) (ls : List Line) → WellCut (l ∷ ls) → (at p : ℕ) (j : Judged) → judge at l ≡ j → first_bad (j ∷ judge_lines (at + length l.bytes + 1) ls) ≡ Some p
        → (first_bad (judge_lines (at + length l.bytes + 1) ls) ≡ Some p → (k : ℕ) × (p ≡ at + length l.bytes + 1 + k) × NotAllowed (joined ls) k)
        → (k : ℕ) × (p ≡ at + k) × NotAllowed (joined (l ∷ ls)) k
    go l ls c at p comment q e i = bad_later at p l ls c e (i e)
    go l ls c at p (row cells) q e i = bad_later at p l ls c e (i e)
    go l ls c at p (bad x) q e i = let y : x ≡ p = cc in bad_here at p l _ c.0 (rw (← y) q)

-- an answer 8 comes from the first bad byte
letter_only : (o : Option ℕ) (rows : List (List ℕ)) (room p : ℕ) → refuses 8 (p ∷ []) ≡ (refuse_at o 8 then size_rule rows room) → o ≡ Some p
unfolding size_rule
letter_only None rows room p e = absurd (go (among max_height (length rows)) (among max_width (width_of rows)) (leb (width_of rows * length rows) room) (width_of rows ∷ length rows ∷ []) e)
  where
    go : (s t u : Bool) (vs : List ℕ) → refuses 8 (p ∷ []) ≡ (refuse_unless s 2 then refuse_unless t 1 then refuse_unless u 5 then gives vs) → ⊥
    go true true true vs e = cc
    go true true false vs e = cc
    go true false u vs e = cc
    go false t u vs e = cc
letter_only (Some q) rows room p e = cc

pub bad_byte : BadByte
unfolding read_rule judged
bad_byte bytes at cells cells' p c =
    let cut = cut_into_lines (drop at bytes) in
    let i = bad_in (lines_of (drop at bytes)) cut.1 at p (letter_only _ _ _ p c.answers) in
    let k = i.0 in
    let n : NotAllowed (drop at bytes) k = rw cut.0 at i.2 in
    let here : get_or (drop at bytes) k 0 ≡ get_or bytes p 0 = get_or-drop at bytes k 0 ∙ ap (λ (x : ℕ). get_or bytes x 0) (sym i.1) in
    (omega (arith, i.1), omega (arith, i.1, n.inside, length-drop at bytes), rw (← here) n.no_letter, λ z. n.no_lf (here ∙ z))
