-- Document 01, "Plaintext boards and the program": what the program prints of a text, and what its memory holds then.
-- Assumes nothing.
use Rattle.std.specs.Prelude.{◌≡◌, true, false, List, [], ◌∷◌, ◌++◌, ℕ, ◌*◌, ◌≤◌, length, take, drop, Err, None, Ok, Option, Result, Some}
use Rattle.board.specs.Answers.{gives, refuses, number_of}
use Rattle.rule.specs.Rule.{conway_rule}
use Rattle.runner.specs.Solving.{Solves}
use Rattle.puzzle.specs.Sizes.{program_kind, program_sizes}
use Rattle.puzzle.specs.Texts.{text_check, text_givens}
use Rattle.puzzle.specs.Printing.{best_text, none_line, refused_line, Prints}
use Rattle.board.specs.declared.Refusal.{Refusal}

-- what is printed of a grid of w by h, by what solving it answers and the board that it leaves
abbrev pub printed : ℕ → ℕ → Result (Option ℕ) Refusal → List ℕ → List ℕ
printed w h (Ok (Some score)) board = best_text score w h board
printed w h (Ok None) board = none_line
printed w h (Err r) board = refused_line (number_of r)

-- "as .. opening and working": a grid is solved under Conway's rule, by a job of the program's kind, and what that answers is printed
pub record SolvesGrid (w h : ℕ) (givens table board output : List ℕ) (n : ℕ) (table' board' output' : List ℕ) : Type 0 where
  pub answer : Result (Option ℕ) Refusal
  pub solves : Solves program_kind conway_rule w h givens table board answer table' board'
  pub prints : Prints (printed w h answer board') output n output'

-- A text turned away has its number printed, and nothing else is written. Otherwise its givens stand in the first w × h places for givens, also
-- where solving refuses them, and their grid is solved in the first w × h cells of the board; the places past them are as they were.
pub record AnswersText (text givens table board output : List ℕ) (n : ℕ) (givens' table' board' output' : List ℕ) : Type 0 where
  pub turned : (number : ℕ) (values : List ℕ) → text_check text ≡ refuses number values
      → Prints (refused_line number) output n output' × (givens' ≡ givens) × (table' ≡ table) × (board' ≡ board)
  pub solved : (w h : ℕ) → text_check text ≡ gives (w ∷ h ∷ [])
      → SolvesGrid w h (text_givens text) table (take (w * h) board) output n table' (take (w * h) board') output'
      × (givens' ≡ text_givens text ++ drop (w * h) givens) × (drop (w * h) board' ≡ drop (w * h) board)
  pub inside : n ≤ length output

-- In memory of the program's sizes a text is answered. In any other nothing is written, and the count is 0.
pub record AnswersAny (text givens table board output : List ℕ) (n : ℕ) (givens' table' board' output' : List ℕ) : Type 0 where
  pub answered : program_sizes (length givens) (length table) (length board) (length output) ≡ true
      → AnswersText text givens table board output n givens' table' board' output'
  pub otherwise : program_sizes (length givens) (length table) (length board) (length output) ≡ false
      → (n ≡ 0) × (givens' ≡ givens) × (table' ≡ table) × (board' ≡ board) × (output' ≡ output)
