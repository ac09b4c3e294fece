-- Each answer of text in, from the tests that led to it.
-- Assumes nothing.
use mathlib.Core.Path.{◌≡◌, refl, ap}
use Rattle.std.specs.Prelude.{Option, None, Some, Ok, Err}
use mathlib.Core.List.{List, [], ◌∷◌}
use Prim.Native.Nat.{ℕ, ◌*◌, ◌<◌, ◌≤◌}
use borrow.Author.Tests.{le-leb, lt-leb}
use lib.Dec.{leb}
use lib.ListN.{length}
use Rattle.board.specs.declared.Refusal.{Refusal}
use Rattle.board.specs.declared.Refusal.TheVariants.{BoardLength, Letter}
use Rattle.board.specs.Answers.{Answer, gives, refusal_says, passed, ◌then◌, refuse_unless}
use Rattle.board.specs.Boards.{Sized}
use Rattle.board.specs.Checks.{width_check, height_check, size_check}
use Rattle.board.proofs.Answers.{refused_keeps}
use Rattle.board.proofs.Checks.{sized}
use Rattle.plaintext.specs.declared.Size.{Size}
use Rattle.plaintext.specs.Reading.{judged, first_bad, rows_of, width_of, size_rule, read_rule, board_over, ReadsText}
use Rattle.plaintext.specs.Scanning.{measure_of}

-- what the measure of a text says of its bad bytes and its rows
pub measured_bad : (o : Option ℕ) (rows : List (List ℕ)) (r : Refusal) → Err r ≡ measure_of o rows → (p : ℕ) × (r ≡ Letter p) × (o ≡ Some p)
measured_bad None rows r e = absurd (cc)
measured_bad (Some q) rows r e = (q, cc, refl)

pub measured_size : (o : Option ℕ) (rows : List (List ℕ)) (size : Size) → Ok size ≡ measure_of o rows
    → (o ≡ None) × (size.width ≡ width_of rows) × (size.height ≡ length rows)
measured_size None rows size e = let s : size ≡ record { width = width_of rows; height = length rows } = cc in (refl, ap (λ (z : Size). z.width) s, ap (λ (z : Size). z.height) s)
measured_size (Some q) rows size e = absurd (cc)

-- a height and a width that pass are a size
pub checked_size : (w h : ℕ) {us vs : List ℕ} → height_check h ≡ gives us → width_check w ≡ gives vs → Sized w h
unfolding size_check
checked_size w h {us} low narrow = sized w h {vs = us} (rw narrow low)

module _ (bytes : List ℕ) (at : ℕ) (cells : List ℕ) where
  read_refused : (r : Refusal) → refusal_says r ≡ read_rule bytes at (length cells) → ReadsText bytes at cells cells (Err r)
  read_refused r e = record { answers = e; leaves = refused_keeps r e _ _ }

  pub read_bad : (p : ℕ) → first_bad (judged bytes at) ≡ Some p → ReadsText bytes at cells cells (Err (Letter p))
  unfolding read_rule
  read_bad p e = read_refused (Letter p) (rw e)

  -- a text of rows alone, w wide and h high
  module _ (w h : ℕ) (size : (first_bad (judged bytes at) ≡ None) × (w ≡ width_of (rows_of (judged bytes at))) × (h ≡ length (rows_of (judged bytes at)))) where
    by_size : {a : Answer} → a ≡ (height_check h then width_check w then refuse_unless (leb (w * h) (length cells)) 5 then gives (w ∷ h ∷ [])) → a ≡ read_rule bytes at (length cells)
    unfolding read_rule size_rule
    by_size e = rw (size.0, ← size.1, ← size.2) e

    pub size_refused : (r : Refusal) → refusal_says r ≡ (height_check h then width_check w then refuse_unless (leb (w * h) (length cells)) 5 then gives (w ∷ h ∷ []))
        → ReadsText bytes at cells cells (Err r)
    size_refused r e = read_refused r (by_size e)

    module _ (low : height_check h ≡ passed) (narrow : width_check w ≡ passed) where
      pub read_short : length cells < w * h → ReadsText bytes at cells cells (Err BoardLength)
      read_short l = size_refused BoardLength (rw (low, narrow, lt-leb _ _ l))

      pub read_done : w * h ≤ length cells → ReadsText bytes at cells (board_over (rows_of (judged bytes at)) cells) (Ok (record { width = w; height = h }))
      read_done l =
          let e : gives (w ∷ h ∷ []) ≡ read_rule bytes at (length cells) = by_size (rw (low, narrow, le-leb _ _ l)) in
          record { answers = e; leaves = rw (← e) }
