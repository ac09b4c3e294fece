-- A board is never refused where there is room for its text, and its text is printed.
-- Assumes nothing.
use mathlib.Core.Path.{◌≡◌, refl, sym, ◌∙◌}
use mathlib.Core.List.{List, [], ◌∷◌}
use Prim.Native.Nat.{ℕ, ◌+◌, ◌≤◌}
use native.Mathlib.Nat.{mul-le-mul}
use native.Mathlib.Omega.{arith}
use borrow.Author.Tests.{le-leb}
use lib.ListN.{length}
use Rattle.board.specs.Answers.{gives}
use Rattle.board.specs.Boards.{Sized, Board}
use Rattle.board.specs.declared.Refusal.{Refusal}
use Rattle.board.proofs.Answers.{refuses_none}
use Rattle.board.proofs.Checks.{board_passes}
use Rattle.writer.specs.Writing.{board_text, text_length, text_over, write_rule, written_says, WritesText}
use Rattle.std.specs.Prelude.{Result, Ok, Err}
use Rattle.writer.proofs.BoardRows.{text_has_length}
use Rattle.puzzle.specs.Printing.{Prints}

-- the longest text: 60 rows of 10 letters and LF
pub text_short : (w h : ℕ) → Sized w h → text_length w h ≤ 660
text_short w h s =
    let m : w + 1 ≤ 11 = omega (arith, s.narrow) in
    mul-le-mul s.low m

length_of : (r : Result ℕ Refusal) {n : ℕ} → written_says r ≡ gives (n ∷ []) → r ≡ Ok n
length_of (Ok m) e = cc e
length_of (Err r) e = absurd (refuses_none e)

module _ {w h : ℕ} {cells text text' : List ℕ} {r : Result ℕ Refusal} (B : Board w h cells) (room : 660 ≤ length text) (W : WritesText w h cells text text' r) where
  rule : write_rule w h cells (length text) ≡ gives (text_length w h ∷ [])
  unfolding write_rule
  rule = let s = text_short w h B.size in rw (board_passes B, le-leb (text_length w h) (length text) (omega arith)) refl

  pub written : r ≡ Ok (text_length w h)
  written = length_of _ (W.answers ∙ rule)

  pub prints_board : Prints (board_text w h cells) text (text_length w h) text'
  unfolding text_over
  prints_board = record { count = sym (text_has_length w h cells B.bytes.long); bytes = rw rule at W.leaves }
