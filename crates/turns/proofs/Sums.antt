-- Sums over the places of a grid: a sum over the places that the cells of the turned grid read is the sum over all. Row by row, backwards and by columns it
-- is so of the two reflections that all eight are made of.
-- Assumes nothing.
use mathlib.Core.Path.{◌≡◌, refl, sym, ◌∙◌, ap}
use Prim.Native.Nat.{ℕ, zero, suc, ◌+◌, ◌*◌, ◌-◌}
use native.Mathlib.Nat.{mul_comm}
use native.Mathlib.Omega.{arith}
use Rattle.board.specs.Sums.{total}
use Rattle.board.proofs.Sums.{total_same, total_sum, total_add}
use Rattle.turns.specs.Turn.{Turn, reflection, diagonal, place_in, turned_width, turned_height, source}
use Rattle.turns.proofs.Cells.{Inside, diagonal_from}
use Rattle.turns.proofs.Places.{area, source_at, source_twice}
use Rattle.turns.proofs.Eight.{every_turn}

-- row by row
total_rows : (f : ℕ → ℕ) (w h : ℕ) → total f (w * h) ≡ total (λ r. total (λ c. f (r * w + c)) w) h
unfolding total
total_rows f w zero = let e : w * 0 ≡ 0 = omega arith in rw e
total_rows f w (suc h) =
    let e : w * suc h ≡ h * w + w = omega arith in
    rw e (total_add f (h * w) w ∙ ap (λ x. x + total (λ c. f (h * w + c)) w) (ap (total f) (mul_comm h w) ∙ total_rows f w h))

-- from the last to the first
total_reversed : (f : ℕ → ℕ) (n : ℕ) → total (λ k. f (n - 1 - k)) n ≡ total f n
unfolding total
total_reversed f zero = refl
total_reversed f (suc n) =
    let e : suc n ≡ 1 + n = omega arith in
    let first : f (suc n - 1 - 0) ≡ f n = ap f (omega arith) in
    let rest : total (λ k. f (suc n - 1 - (1 + k))) n ≡ total f n = total_same _ (λ k. f (n - 1 - k)) n (λ k l. ap f (omega arith)) ∙ total_reversed f n in
    ap (total (λ k. f (suc n - 1 - k))) e ∙ total_add (λ k. f (suc n - 1 - k)) 1 n ∙ omega arith

-- rows and columns change places
total_zeros : (n : ℕ) → total (λ k. 0) n ≡ 0
unfolding total
total_zeros zero = refl
total_zeros (suc n) = omega (arith, total_zeros n)

total_columns : (f : ℕ → ℕ → ℕ) (w h : ℕ) → total (λ r. total (λ c. f r c) w) h ≡ total (λ c. total (λ r. f r c) h) w
unfolding total
total_columns f w zero = sym (total_zeros w)
total_columns f w (suc h) =
    sym (total_sum (λ c. total (λ r. f r c) (suc h)) (λ c. total (λ r. f r c) h) (λ c. f h c) w (λ c l. refl) ∙ ap (λ x. x + total (λ c. f h c) w) (sym (total_columns f w h)))

module _ (f : ℕ → ℕ) (w h : ℕ) where
  total_reflected : total (λ k. f (source reflection w h k)) (w * h) ≡ total f (w * h)
  total_reflected =
      total_rows (λ k. f (source reflection w h k)) w h
      ∙ total_same _ _ h
      (λ r l.
      total_same _ _ w (λ c m. ap f (source_at reflection w h {s = record { row = r; column = c }} (record { low = l; narrow = m })))
      ∙ total_reversed (λ c. f (r * w + c)) w)
      ∙ sym (total_rows f w h)

  total_diagonal : total (λ k. f (source diagonal w h k)) (w * h) ≡ total f (w * h)
  total_diagonal =
      ap (total (λ k. f (source diagonal w h k))) (mul_comm w h)
      ∙ total_rows (λ k. f (source diagonal w h k)) h w
      ∙ total_same _ _ w
      (λ r l.
      total_same _ _ h
      (λ c m.
      let i : Inside h w (record { row = r; column = c }) = record { low = l; narrow = m } in
      ap f (source_at diagonal w h i ∙ ap (place_in w) (diagonal_from w h i))))
      ∙ total_columns (λ r c. f (c * w + r)) h w
      ∙ sym (total_rows f w h)

-- ---- all eight turns
abbrev TotalKept : Turn → Type 0
TotalKept t = (f : ℕ → ℕ) (w h : ℕ) → total (λ k. f (source t w h k)) (w * h) ≡ total f (w * h)

pub total_kept : (t : Turn) → TotalKept t
total_kept =
    every_turn TotalKept total_reflected total_diagonal
    (λ t u p q f w h.
    total_same _ _ (w * h) (λ k l. ap f (sym (source_twice t u w h l)))
    ∙ (rw (area t w h) at (q (λ k. f (source t w h k)) (turned_width t w h) (turned_height t w h)))
    ∙ p f w h)
