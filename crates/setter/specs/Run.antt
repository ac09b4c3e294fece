-- Document 01, "Plaintext boards and the program": the program reads a text and answers it.
-- Assumes nothing.
use Rattle.std.specs.Prelude.{◌≡◌, List, ℕ, ◌≤◌, length, take}
use Rattle.puzzle.specs.Sizes.{text_room}
use Rattle.puzzle.specs.Answering.{AnswersText}

-- The bytes that were read, at most one more than the longest text has, are answered. (No contract can say that they are the input's, nor that
-- what is printed is the start of the output.)
pub record AnswersRead (text givens table board output givens' table' board' output' : List ℕ) : Type 0 where
  pub room : length text ≡ text_room
  pub read : ℕ
  pub printed : ℕ
  pub inside : read ≤ text_room
  pub answered : AnswersText (take read text) givens table board output printed givens' table' board' output'
