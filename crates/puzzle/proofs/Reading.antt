-- What is printed of a text that is too long, not read, or read and solved.
-- Assumes nothing.
use mathlib.Core.Path.{◌≡◌, refl, sym, ◌∙◌, ap}
use mathlib.Core.Bool.{Bool, true, false, ◌&&◌, true≢false}
use mathlib.Core.List.{List, [], ◌∷◌, ◌++◌, map}
use Prim.Native.Nat.{ℕ, ◌*◌, ◌≤◌, ◌<◌}
use native.Mathlib.Nat.{mul-le-mul}
use native.Mathlib.Omega.{arith}
use borrow.Author.Tests.{eqb-true, le-leb, lt-leb}
use lib.Dec.{eqb, leb}
use lib.ListN.{length, take, drop}
use lib.Seq.{take_at, drop_at}
use Rattle.board.specs.Answers.{Answer, gives, refuses, number_of, refusal_says, ◌then◌, refuse_unless, refuse_at}
use Rattle.board.specs.Boards.{Board}
use Rattle.board.specs.Checks.{width_check, height_check}
use Rattle.board.specs.declared.Refusal.{Refusal}
use Rattle.board.specs.declared.Refusal.TheVariants.{LongText}
use Rattle.board.proofs.Answers.{refuses_none}
use Rattle.board.proofs.Checks.{boarded}
use Rattle.plaintext.specs.Reading.{judged, first_bad, rows_of, width_of, size_rule, read_rule, board_over, read_says, ReadsText}
use Rattle.std.specs.Prelude.{Result, Ok, Err}
use Rattle.plaintext.specs.declared.Size.{Size}
use Rattle.plaintext.proofs.Reading.{reads_a_board, read_cells}
use Rattle.plaintext.proofs.RowCells.{cells_long}
use Rattle.puzzle.specs.Sizes.{longest_text, cell_room, entry_room, output_room, program_sizes}
use Rattle.puzzle.specs.Texts.{text_check, Decided, turned, sized, EveryText, text_cells, given_of}
use Rattle.puzzle.specs.Printing.{refused_line, Prints}
use Rattle.puzzle.specs.Answering.{SolvesGrid, AnswersText}
use Rattle.puzzle.proofs.Pieces.{prints_inside}

-- ---- memory of the program's sizes
pub record Sizes (givens table board output : ℕ) : Type 0 where
  pub givens_room : givens ≡ cell_room
  pub table_room : table ≡ entry_room
  pub board_room : board ≡ cell_room
  pub output_room_lem : output ≡ output_room

pub sizes : (givens table board output : ℕ) → program_sizes givens table board output ≡ true → Sizes givens table board output
sizes g t b o e = go (eqb g cell_room) refl (eqb t entry_room) refl (eqb b cell_room) refl (eqb o output_room) refl e
  where
    go : (p : Bool) → eqb g cell_room ≡ p → (q : Bool) → eqb t entry_room ≡ q → (r : Bool) → eqb b cell_room ≡ r → (s : Bool) → eqb o output_room ≡ s
        → p && q && r && s ≡ true → Sizes g t b o
    go true gp true tq true br true os e = record { givens_room = eqb-true _ _ gp; table_room = eqb-true _ _ tq; board_room = eqb-true _ _ br; output_room_lem = eqb-true _ _ os }
    go false gp q tq r br s os e = absurd (true≢false (sym e))
    go true gp false tq r br s os e = absurd (true≢false (sym e))
    go true gp true tq false br s os e = absurd (true≢false (sym e))
    go true gp true tq true br false os e = absurd (true≢false (sym e))

-- ---- every text is turned away or holds a grid
then_decided : (a b : Answer) → Decided b → Decided (a then b)
then_decided (gives values) b d = d
then_decided (refuses n values) b d = turned n values

pub every_text : EveryText
unfolding text_check read_rule size_rule
every_text text =
    let rows = rows_of (judged text 0) in
    then_decided (refuse_unless (leb (length text) longest_text) 12) _
    (then_decided (refuse_at (first_bad (judged text 0)) 8) _
    (then_decided (height_check (length rows)) _
    (then_decided (width_check (width_of rows)) _
    (then_decided (refuse_unless (leb (width_of rows * length rows) cell_room) 5) _ (sized (width_of rows) (length rows))))))

-- ---- a text turned away
same_number : (r : Refusal) {k : ℕ} {values : List ℕ} → refusal_says r ≡ refuses k values → number_of r ≡ k
same_number r e = cc e

module _ {text g g' t β o o' : List ℕ} (r : Refusal) {n : ℕ} (P : Prints (refused_line (number_of r)) o n o') (long : length o' ≡ length o) where
  turned_text : text_check text ≡ refusal_says r → g' ≡ g → AnswersText text g t β o n g' t β o'
  turned_text c same = record {
    turned = λ k values e. (rw (same_number r (sym c ∙ e)) at P, same, refl, refl);
    solved = λ w h e. absurd (refuses_none (sym c ∙ e));
    inside = prints_inside P long;
  }

pub long_text : {text g t β o o' : List ℕ} {n : ℕ} → longest_text < length text → Prints (refused_line (number_of LongText)) o n o' → length o' ≡ length o
    → AnswersText text g t β o n g t β o'
unfolding text_check
long_text {text} h P long = turned_text LongText P long (rw (lt-leb (length text) longest_text h) refl) refl

-- ---- a text that is read
module _ {text cells cells' : List ℕ} {v : Result Size Refusal} (short : length text ≤ longest_text) (room : length cells ≡ cell_room) (R : ReadsText text 0 cells cells' v) where
  check : text_check text ≡ read_says v
  unfolding text_check
  check = rw (le-leb (length text) longest_text short, ← room) (sym R.answers)

  pub refused_text : (r : Refusal) {t β o o' : List ℕ} {n : ℕ} → v ≡ Err r → Prints (refused_line (number_of r)) o n o' → length o' ≡ length o
      → AnswersText text cells t β o n cells' t β o'
  refused_text r e P long = turned_text r P long (check ∙ ap read_says e) (rw (← R.answers, e) at R.leaves)

  module _ {size : Size} (e : v ≡ Ok size) where
    abbrev w : ℕ
    w = size.width

    abbrev h : ℕ
    h = size.height

    pub read_board : Board w h (take (w * h) cells')
    read_board = boarded w h _ (reads_a_board text 0 cells cells' w h (rw e at R))

    -- its cells fit the buffers
    pub read_small : w * h ≤ cell_room
    read_small = mul-le-mul read_board.size.narrow read_board.size.low

    read_text : take (w * h) cells' ≡ text_cells text
    read_text = read_cells text 0 cells cells' w h (rw e at R)

    -- the places past the cells are as they were
    read_rest : drop (w * h) cells' ≡ drop (w * h) cells
    unfolding board_over
    read_rest =
        let rows = rows_of (judged text 0) in
        let long : length (text_cells text) ≡ w * h = rw read_text at read_board.bytes.long in
        let area : width_of rows * length rows ≡ w * h = sym (cells_long (width_of rows) rows (omega arith)) ∙ long in
        let held : cells' ≡ text_cells text ++ drop (w * h) cells = rw (← R.answers, e, area) at R.leaves in
        rw held (drop_at (text_cells text) (drop (w * h) cells) (w * h) long)

    -- the givens and the board that are left are the parts that were lent, and the rest
    pub read_solved : {t β o t' givens part o' : List ℕ} {n : ℕ} → length part ≡ w * h → length o' ≡ length o → givens ≡ map given_of (take (w * h) cells')
        → SolvesGrid w h (map given_of (take (w * h) cells')) t (take (w * h) β) o n t' part o'
        → AnswersText text cells t β o n (givens ++ drop (w * h) cells') t' (part ++ drop (w * h) β) o'
    read_solved {β = β} {part = part} size long given S =
        let C = rw read_text at S in
        let same : (w' h' : ℕ) → text_check text ≡ gives (w' ∷ h' ∷ []) → gives (w ∷ h ∷ []) ≡ gives (w' ∷ h' ∷ []) = λ w' h' q. sym (check ∙ ap read_says e) ∙ q in
        record {
          turned = λ k values q. absurd (refuses_none (sym q ∙ check ∙ ap read_says e));
          solved = λ w' h' q.
              let x : w ≡ w' = cc (same w' h' q) in
              let y : h ≡ h' = cc (same w' h' q) in
              rw (← x, ← y)
              (rw (take_at part (drop (w * h) β) (w * h) size) C, rw (given, read_text, read_rest) refl, drop_at part (drop (w * h) β) (w * h) size);
          inside = prints_inside S.prints long;
        }
