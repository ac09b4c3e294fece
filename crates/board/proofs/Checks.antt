-- The checks pass exactly for the sizes, boards and grids of givens; and which numbers they answer.
-- Assumes nothing.
use mathlib.Core.Path.{◌≡◌}
use mathlib.Core.Bool.{Bool, false}
use Rattle.std.specs.Prelude.{Option, None, Some}
use mathlib.Core.List.{List}
use Prim.Native.Nat.{ℕ, ◌*◌, ◌<◌, ◌≤◌}
use native.Mathlib.Omega.{arith}
use borrow.Author.Tests.{eqb-true, leb-true, eq-eqb, le-leb}
use lib.Dec.{eqb, leb}
use lib.ListN.{length, get_or}
use Rattle.board.specs.Search.{first_not}
use Rattle.board.specs.Answers.{gives, passed, ◌then◌, refuse_unless, Checked}
use Rattle.board.specs.Boards.{among, max_height, width_fits, is_width, Sized, SizedBy, Bytes, Board}
use Rattle.board.specs.Checks.{length_check, bytes_check, height_check, size_check, cells_check, marks_check, givens_check, board_check, at_most, ChecksRight}
use Rattle.board.proofs.Tests.{and_left, and_right, and_true, among_yes, among_in}
use Rattle.board.proofs.Widths.{width_of, width_fits_lem, size_by, by_size}
use Rattle.board.proofs.Answers.{then_gives, unless_gives, at_gives, checked_then, checked_unless, checked_at}
use Rattle.board.proofs.Search.{Searched, searched, all_pass, fails_at, none_of}

-- ---- the size
module _ (halves : Bool) where
  pub sized_by : (w h : ℕ) {vs : List ℕ} → size_check halves w h ≡ gives vs → SizedBy halves w h
  unfolding size_check
  sized_by w h e =
      let p = then_gives (refuse_unless (is_width halves w) 1) (height_check h) e in
      let a = unless_gives (is_width halves w) 1 p.0.1 in
      let b = among_in max_height h (unless_gives (among max_height h) 2 p.1) in record {
        some_column = leb-true 1 w (and_left (leb 1 w) (width_fits halves w) a);
        width = width_of halves w (and_right (leb 1 w) (width_fits halves w) a);
        some_row = b.0;
        low = b.1;
      }

  pub size_passes_by : {w h : ℕ} → SizedBy halves w h → size_check halves w h ≡ passed
  unfolding size_check
  size_passes_by {w} {h} s =
      rw (and_true (le-leb 1 w s.some_column) (width_fits_lem halves w s.width), among_yes max_height h s.some_row s.low)

  pub size_checked : (n w h : ℕ) → (1 ≡ n → ⊥) → (2 ≡ n → ⊥) → Checked n (size_check halves w h)
  unfolding size_check
  size_checked n w h p q =
      checked_then n (refuse_unless (is_width halves w) 1) (height_check h) (checked_unless n (is_width halves w) 1 p) (checked_unless n (among max_height h) 2 q)

-- of a row's number with a digit for each cell
pub sized : (w h : ℕ) {vs : List ℕ} → size_check false w h ≡ gives vs → Sized w h
sized w h e = by_size (sized_by false w h e)

pub size_passes : {w h : ℕ} → Sized w h → size_check false w h ≡ passed
size_passes s = size_passes_by false (size_by s)

-- ---- the bytes: their length, then each of them
module _ (n m most w h : ℕ) (bytes : List ℕ) where
  small : first_not (at_most most bytes) (length bytes) ≡ None → (k : ℕ) → k < length bytes → get_or bytes k 0 ≤ most
  small e = go (first_not (at_most most bytes) (length bytes)) (searched (at_most most bytes) (length bytes)) e
    where
      go : (o : Option ℕ) → Searched (at_most most bytes) (length bytes) o → o ≡ None → (k : ℕ) → k < length bytes → get_or bytes k 0 ≤ most
      go None (all_pass f) q k l = leb-true _ _ (f k l)
      go (Some i) (fails_at _ l p f) q k j = let z : ◌≡◌ {A = ℕ} 0 1 = cc in omega arith

  bytes_of : {vs : List ℕ} → (length_check n w h bytes then bytes_check m most bytes) ≡ gives vs → Bytes most w h bytes
  bytes_of e =
      let p = then_gives (length_check n w h bytes) (bytes_check m most bytes) e in
      record { long = eqb-true _ _ (unless_gives _ n p.0.1); states = small (at_gives _ m p.1) }

  bytes_pass : Bytes most w h bytes → (length_check n w h bytes then bytes_check m most bytes) ≡ passed
  bytes_pass b = rw (eq-eqb (length bytes) (w * h) b.long, none_of (at_most most bytes) (length bytes) (λ k l. le-leb _ _ (b.states k l)))

pub cells_of : (w h : ℕ) (cells : List ℕ) {vs : List ℕ} → cells_check w h cells ≡ gives vs → Bytes 1 w h cells
unfolding cells_check
cells_of w h cells e = bytes_of 5 11 1 w h cells e

pub cells_pass : {w h : ℕ} {cells : List ℕ} → Bytes 1 w h cells → cells_check w h cells ≡ passed
unfolding cells_check
cells_pass {w} {h} {cells} b = bytes_pass 5 11 1 w h cells b

pub boarded : (w h : ℕ) (cells : List ℕ) {vs : List ℕ} → board_check w h cells ≡ gives vs → Board w h cells
unfolding board_check
boarded w h cells e =
    let p = then_gives (size_check false w h) (cells_check w h cells) e in
    record { size = sized w h p.0.1; bytes = cells_of w h cells p.1 }

pub board_passes : {w h : ℕ} {cells : List ℕ} → Board w h cells → board_check w h cells ≡ passed
unfolding board_check
board_passes {w} {h} {cells} b = rw (size_passes b.size) (cells_pass b.bytes)

module _ (most w h : ℕ) (marks : List ℕ) where
  pub marks_of_lem : {vs : List ℕ} → marks_check most w h marks ≡ gives vs → Bytes most w h marks
  unfolding marks_check
  marks_of_lem e = bytes_of 3 4 most w h marks e

  pub marks_pass : Bytes most w h marks → marks_check most w h marks ≡ passed
  unfolding marks_check
  marks_pass b = bytes_pass 3 4 most w h marks b

  pub marks_checked : (n : ℕ) → (3 ≡ n → ⊥) → (4 ≡ n → ⊥) → Checked n (marks_check most w h marks)
  unfolding marks_check
  marks_checked n p q =
      checked_then n (length_check 3 w h marks) (bytes_check 4 most marks) (checked_unless n (eqb (length marks) (w * h)) 3 p)
      (checked_at n (first_not (at_most most marks) (length marks)) 4 q)

pub checks_right : ChecksRight
checks_right = (
  λ w h. (sized w h, size_passes),
  λ halves w h. (sized_by halves w h, size_passes_by halves),
  λ w h cells. (boarded w h cells, board_passes),
  λ w h marks. (
    λ e. let p = then_gives (size_check false w h) (givens_check w h marks) e in record { size = sized w h p.0.1; bytes = marks_of_lem 2 w h marks p.1 },
    λ g. rw (size_passes g.size) (marks_pass 2 w h marks g.bytes),
  ),
  λ w h target. (marks_of_lem 1 w h target, marks_pass 1 w h target),
)
