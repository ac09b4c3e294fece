-- What the round of a unit says of it.
-- Assumes nothing.
use mathlib.Core.Path.{◌≡◌, refl, sym, ◌∙◌, ap}
use mathlib.Core.Bool.{Bool, true, false, not}
use mathlib.Core.Logic.{⊎_elim}
use Prim.Native.Nat.{ℕ, ◌+◌, ◌*◌, ◌^◌, ◌≤◌, ◌<◌}
use native.Mathlib.Nat.{add-zero}
use native.Mathlib.Omega.{arith}
use borrow.Author.Tests.{ltb-true, ltb-false, eqb-true, eqb-false, lt-ltb, le-ltb, eq-eqb, ne_eqb}
use lib.Dec.{eqb, ltb}
use Rattle.board.specs.Boards.{max_height, Width}
use Rattle.elimination.specs.Task.{row, is_fill}
use Rattle.elimination.specs.Rounds.{InRound, round_fill, Rounds}
use Rattle.std.proofs.lemmas.Bool.{cases_lt}
use Rattle.elimination.proofs.Rounds.{Does, fills, chooses, rests, does, until, fills_until, round_past, chosen_round}
use Rattle.job_kind.specs.Kinds.{halves_of, kind_digits, board_length, chosen_in, shape_of, round_work, layer_start, course_of}
use Rattle.job.specs.Inner.{RoundIs}
use Rattle.job_kind.specs.declared.Kind.{Kind}
use Rattle.job.specs.declared.shape.Round.{Round}
use Rattle.job_kind.proofs.Shapes.{shape_lawful, shape_rounds, length_le}

-- n places on, entries are left where more than n are
left_on : (m n left work : ℕ) → m + left ≡ work → n ≤ left → ltb (m + n) work ≡ not (eqb left n)
left_on m n left work e l = go (eqb left n) refl
  where
    go : (b : Bool) → eqb left n ≡ b → ltb (m + n) work ≡ not (eqb left n)
    go true q = le-ltb (m + n) work (omega (arith, eqb-true left n q)) ∙ sym (ap not q)
    go false q = let f : left ≡ n → ⊥ = eqb-false left n q in lt-ltb (m + n) work (omega (arith, e, l, f)) ∙ sym (ap not q)

module _ {kind : Kind} {w h u : ℕ} {x : Round} (R : RoundIs kind w h u x) where
  abbrev S : Rounds (4 ^ kind_digits kind w) (shape_of kind w h) (course_of kind w h)
  S = shape_rounds w h kind

  -- an entry is left to fill
  pub fills_entry : (x.left ≡ 0 → ⊥) → (x.place < h * 4 ^ kind_digits kind w) × (u < board_length kind w h) × ((shape_of kind w h).plan u ≡ round_fill h (4 ^ kind_digits kind w) (layer_start kind w) x.place)
  fills_entry n = go (does S R.at)
    where
      go : Does S u x.rows x.place → (x.place < h * 4 ^ kind_digits kind w) × (u < board_length kind w h) × ((shape_of kind w h).plan u ≡ round_fill h (4 ^ kind_digits kind w) (layer_start kind w) x.place)
      go (fills l b p) = (omega (arith, b, S.most x.rows), until S R.at l, p)
      go (chooses l b p) = absurd (n (omega (arith, R.rest l)))
      go (rests e p) = absurd (n (R.past (omega arith)))

  -- no entry is left, and there is a row to choose
  pub chooses_row : x.left ≡ 0 → x.rows < h → (u < board_length kind w h) × ((shape_of kind w h).plan u ≡ row x.rows (layer_start kind w x.rows))
  chooses_row z l = go (does S R.at)
    where
      go : Does S u x.rows x.place → (u < board_length kind w h) × ((shape_of kind w h).plan u ≡ row x.rows (layer_start kind w x.rows))
      go (fills a b p) = absurd (omega (arith, R.rest l))
      go (chooses a b p) = (until S R.at l, p)
      go (rests e p) = absurd (omega arith)

  -- the unit n entries on fills exactly where more than n are left
  at_on : (n : ℕ) → n ≤ x.left → InRound h (course_of kind w h) (u + n) x.rows (x.place + n)
  at_on n l = record { rows = R.at.rows; is = omega (arith, R.at.is); within = λ z. omega (arith, R.rest z) }

  pub fills_on : (n : ℕ) → n ≤ x.left → is_fill ((shape_of kind w h).plan (u + n)) ≡ not (eqb x.left n)
  fills_on n l =
      ⊎_elim
      (λ (a : x.rows < h). fills_until S (at_on n l) a ∙ left_on x.place n x.left (round_work kind w h x.rows) (R.rest a) l)
      (λ (a : h ≤ x.rows). round_past S (at_on n l) a ∙ sym (ap not (eq-eqb x.left n (omega (arith, R.past a)))))
      (cases_lt x.rows h)

  pub fills_left : is_fill ((shape_of kind w h).plan u) ≡ not (eqb x.left 0)
  fills_left = ap (λ (v : ℕ). is_fill ((shape_of kind w h).plan v)) (sym (add-zero u)) ∙ fills_on 0 (omega arith)

  pub chooses_left : eqb x.left 0 ≡ not (is_fill ((shape_of kind w h).plan u))
  chooses_left = not_not (eqb x.left 0) ∙ ap not (sym fills_left)
    where
      not_not : (b : Bool) → b ≡ not (not b)
      not_not true = refl
      not_not false = refl

  -- the units stay few
  pub units_on : Width (halves_of kind) w → h ≤ max_height → u < 2 ^ 64 → (n : ℕ) → n ≤ x.left → u + n < 2 ^ 64
  units_on a b few n l =
      ⊎_elim
      (λ (c : x.rows < h). omega (arith, until S (at_on n l) c, length_le kind a b))
      (λ (c : h ≤ x.rows). omega (arith, R.past c))
      (cases_lt x.rows h)

  -- no row is left: the units are the length, and as many more as its place says
  pub rows_done : h ≤ x.rows → u ≡ board_length kind w h + x.place
  rows_done l = go (does S R.at)
    where
      go : Does S u x.rows x.place → u ≡ board_length kind w h + x.place
      go (fills a b p) = absurd (omega arith)
      go (chooses a b p) = absurd (omega arith)
      go (rests e p) = p

  pub rows_spent : h ≤ x.rows → board_length kind w h ≤ u
  rows_spent l = omega (arith, rows_done l)

  -- a row is left: so are units
  pub rows_left : x.rows < h → u < board_length kind w h
  rows_left l = until (shape_rounds w h kind) R.at l

  -- so the tests of the units by the end mark are tests of the round
  pub runs_same : ltb x.rows h ≡ ltb u (board_length kind w h)
  runs_same = go (ltb x.rows h) refl
    where
      go : (b : Bool) → ltb x.rows h ≡ b → ltb x.rows h ≡ ltb u (board_length kind w h)
      go true e = e ∙ sym (lt-ltb u (board_length kind w h) (rows_left (ltb-true x.rows h e)))
      go false e = e ∙ sym (le-ltb u (board_length kind w h) (rows_spent (ltb-false x.rows h e)))

  pub ends_not : x.rows < h → eqb u (board_length kind w h) ≡ false
  ends_not l = ne_eqb u (board_length kind w h) (λ e. omega (arith, rows_left l))

  pub ends_same : h ≤ x.rows → eqb x.place 0 ≡ eqb u (board_length kind w h)
  ends_same l = go (eqb x.place 0) refl
    where
      go : (b : Bool) → eqb x.place 0 ≡ b → eqb x.place 0 ≡ eqb u (board_length kind w h)
      go true e = e ∙ sym (eq-eqb u (board_length kind w h) (omega (arith, rows_done l, eqb-true x.place 0 e)))
      go false e = e ∙ sym (ne_eqb u (board_length kind w h) (λ z. eqb-false x.place 0 e (omega (arith, rows_done l))))

  -- the rows chosen are its round
  pub rows_round : 0 < h → u ≤ board_length kind w h → chosen_in kind w h u ≡ x.rows
  rows_round high l = chosen_round (shape_rounds w h kind) (shape_lawful w h kind high) R.at l
