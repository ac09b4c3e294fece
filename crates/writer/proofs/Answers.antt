-- Each answer of text out, from the tests that led to it.
-- Assumes nothing.
use mathlib.Core.Path.{◌≡◌}
use mathlib.Core.List.{List}
use Prim.Native.Nat.{ℕ, ◌/◌, ◌<◌, ◌≤◌}
use native.Mathlib.Nat.{mul-div_cancel_left}
use borrow.Author.Tests.{le-leb, lt-leb}
use lib.ListN.{length}
use Rattle.std.specs.Prelude.{Ok, Err}
use Rattle.board.specs.declared.Refusal.{Refusal}
use Rattle.board.specs.declared.Refusal.TheVariants.{ShortOutput}
use Rattle.board.specs.Answers.{refusal_says, passed}
use Rattle.board.specs.Boards.{Board}
use Rattle.board.specs.Checks.{board_check}
use Rattle.board.proofs.Answers.{refused_keeps}
use Rattle.writer.specs.Writing.{text_length, write_rule, text_over, WritesText}

-- a board has h rows of w cells
pub rows_in : {w h : ℕ} {cells : List ℕ} → Board w h cells → length cells / w ≡ h
rows_in {w} {h} b = rw b.bytes.long (mul-div_cancel_left h b.size.some_column)

module _ (w h : ℕ) (cells text : List ℕ) where
  pub write_refused : (r : Refusal) → refusal_says r ≡ write_rule w h cells (length text) → WritesText w h cells text text (Err r)
  write_refused r e = record { answers = e; leaves = refused_keeps r e _ _ }

  module _ (board : board_check w h cells ≡ passed) where
    pub write_short : length text < text_length w h → WritesText w h cells text text (Err ShortOutput)
    unfolding write_rule
    write_short l = write_refused ShortOutput (rw (board, lt-leb _ _ l))

    pub write_done : text_length w h ≤ length text → WritesText w h cells text (text_over w h cells text) (Ok (text_length w h))
    unfolding write_rule
    write_done l = record { answers = rw (board, le-leb _ _ l); leaves = rw (board, le-leb _ _ l) }
