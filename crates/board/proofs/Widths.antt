-- Widths by how rows are held: the test of a width as the code makes it, and what it shows.
-- Assumes nothing.
use mathlib.Core.Path.{◌≡◌, refl}
use mathlib.Core.Bool.{Bool, true, false, false≢true}
use Prim.Native.Nat.{ℕ, ◌%◌, ◌≤◌}
use native.Mathlib.Omega.{arith}
use borrow.Author.Tests.{eqb-true, eq-eqb, ne_eqb, leb-true, le-leb}
use lib.Dec.{eqb, leb}
use Rattle.board.specs.Boards.{max_width, max_mirror_width, width_fits, Width, Sized, SizedBy}
use Rattle.board.proofs.Tests.{and_left, and_right}

pub width_odd : (w : ℕ) → (w % 2 ≡ 0 → ⊥) → false ≡ width_fits true w
width_odd w n = rw (ne_eqb (w % 2) 0 n)

pub width_even : (w : ℕ) → w % 2 ≡ 0 → leb w max_mirror_width ≡ width_fits true w
width_even w e = rw (eq-eqb (w % 2) 0 e)

pub width_digits : {w : ℕ} → w ≤ max_width → Width false w
width_digits l = record { narrow = l; even = λ e. absurd (false≢true e) }

pub width_le : (halves : Bool) (w : ℕ) → Width halves w → w ≤ max_mirror_width
width_le true w W = omega (arith, W.narrow, W.even refl)
width_le false w W = omega (arith, W.narrow)

pub width_of : (halves : Bool) (w : ℕ) → width_fits halves w ≡ true → Width halves w
width_of true w e =
    let even = eqb-true (w % 2) 0 (and_left (eqb (w % 2) 0) (leb w max_mirror_width) e) in
    record { narrow = omega (arith, leb-true w max_mirror_width (and_right (eqb (w % 2) 0) (leb w max_mirror_width) e)); even = λ _. even }
width_of false w e = width_digits (leb-true w max_width e)

pub width_fits_lem : (halves : Bool) (w : ℕ) → Width halves w → width_fits halves w ≡ true
width_fits_lem true w W = rw (eq-eqb (w % 2) 0 (W.even refl), le-leb w max_mirror_width (width_le true w W))
width_fits_lem false w W = le-leb w max_width W.narrow

-- where a row's number has a digit for each cell, it is a size like any other
pub size_by : {w h : ℕ} → Sized w h → SizedBy false w h
size_by z = record { some_column = z.some_column; width = width_digits z.narrow; some_row = z.some_row; low = z.low }

pub by_size : {w h : ℕ} → SizedBy false w h → Sized w h
by_size z = record { some_column = z.some_column; narrow = z.width.narrow; some_row = z.some_row; low = z.low }
