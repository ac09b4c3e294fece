-- Turned lists: what each place reads, two turns of a list as one, and the turn back.
-- Assumes nothing.
use mathlib.Core.Path.{◌≡◌, refl, sym, ◌∙◌, ap}
use mathlib.Core.Bool.{Bool, true, false}
use mathlib.Core.List.{List}
use Prim.Native.Nat.{ℕ, zero, suc, ◌*◌, ◌<◌}
use native.Mathlib.Nat.{mul_comm, mod-lt, div-add-mod', div-lt_iff_lt-mul}
use native.Mathlib.Omega.{arith}
use lib.Arith.{digits_lt, digits_div, digits_mod}
use lib.ListN.{length, get_or, length-map}
use lib.Seq.{ext_get_or}
use Rattle.std.proofs.lemmas.List.{get_or-map}
use Rattle.board.specs.Lists.{listed}
use Rattle.board.proofs.Lists.{length_listed, get_d_listed}
use Rattle.turns.specs.Turn.{Quarters, none, once, twice, thrice, Turn, ◌and_then◌, no_turn, inverse, side_after, turned_width, turned_height, Cell, cell_from, place_in, cell_at, source, turned_list}
use Rattle.turns.specs.Theorems.{TurnTwice, TurnBack}
use Rattle.turns.proofs.Cells.{Inside, same_cell, from_inside, width_twice, height_twice, from_twice}

-- ---- places and cells
wide : (w h k : ℕ) → k < w * h → 0 < w
wide zero h k l = absurd (omega (arith, mul_comm 0 h))
wide (suc w) h k l = omega arith

pub cell_inside : {w h k : ℕ} → k < w * h → Inside w h (cell_at w k)
cell_inside {w} {h} {k} l =
    let p = wide w h k l in
    record { low = (div-lt_iff_lt-mul p).1 (rw (mul_comm w h) at l); narrow = mod-lt k p }

place_lt : {w h : ℕ} {s : Cell} → Inside w h s → place_in w s < w * h
place_lt {w} {h} i = rw (mul_comm w h) (digits_lt i.low i.narrow)

cell_of_place : {w h : ℕ} {s : Cell} → Inside w h s → cell_at w (place_in w s) ≡ s
cell_of_place {s} i = same_cell (digits_div s.row i.narrow) (digits_mod s.row i.narrow)

-- the turned grid has as many cells
side_area : (q : Quarters) (w h : ℕ) → side_after q w h * side_after q h w ≡ w * h
side_area none w h = refl
side_area once w h = mul_comm h w
side_area twice w h = refl
side_area thrice w h = mul_comm h w

pub area : (t : Turn) (w h : ℕ) → turned_width t w h * turned_height t w h ≡ w * h
area t w h = side_area t.quarters w h

-- ---- what a place reads
module _ (t : Turn) (w h : ℕ) where
  from_at : {k : ℕ} → k < w * h → Inside w h (cell_from t w h (cell_at (turned_width t w h) k))
  from_at l = from_inside t (cell_inside (rw (area t w h) l))

  pub source_lt : {k : ℕ} → k < w * h → source t w h k < w * h
  unfolding source
  source_lt l = place_lt (from_at l)

  pub source_at : {s : Cell} → Inside (turned_width t w h) (turned_height t w h) s → source t w h (place_in (turned_width t w h) s) ≡ place_in w (cell_from t w h s)
  unfolding source
  source_at i = ap (λ x. place_in w (cell_from t w h x)) (cell_of_place i)

  module _ {A : Type 0} (d : A) (xs : List A) where
    pub turned_length : length (turned_list d t w h xs) ≡ w * h
    unfolding turned_list
    turned_length = length-map (listed (λ k. k) (w * h)) (λ k. get_or xs (source t w h k) d) ∙ length_listed (λ k. k) (w * h)

    pub turned_at : {k : ℕ} → k < w * h → get_or (turned_list d t w h xs) k d ≡ get_or xs (source t w h k) d
    unfolding turned_list
    turned_at {k} l =
        get_or-map (λ k. get_or xs (source t w h k) d) (listed (λ k. k) (w * h)) k 0 d (rw (length_listed (λ k. k) (w * h)) l)
        ∙ ap (λ x. get_or xs (source t w h x) d) (get_d_listed (λ k. k) (w * h) k l)

    -- a cell of the turned grid
    pub turned_cell : {s : Cell} → Inside (turned_width t w h) (turned_height t w h) s
        → get_or (turned_list d t w h xs) (place_in (turned_width t w h) s) d ≡ get_or xs (place_in w (cell_from t w h s)) d
    turned_cell i = turned_at (rw (area t w h) at (place_lt i)) ∙ ap (λ x. get_or xs x d) (source_at i)

-- ---- two turns
module _ (t u : Turn) (w h : ℕ) where
  pub source_twice : {k : ℕ} → k < w * h → source t w h (source u (turned_width t w h) (turned_height t w h) k) ≡ source (t and_then u) w h k
  unfolding source
  source_twice {k} l =
      let j : Inside (turned_width u (turned_width t w h) (turned_height t w h)) (turned_height u (turned_width t w h) (turned_height t w h))
      (cell_at (turned_width u (turned_width t w h) (turned_height t w h)) k) =
      cell_inside (rw (area u (turned_width t w h) (turned_height t w h), area t w h) l) in
      source_at t w h (from_inside u j)
      ∙ ap (place_in w) (from_twice t u w h j)
      ∙ ap (λ x. place_in w (cell_from (t and_then u) w h (cell_at x k))) (width_twice t u w h)

  pub turned_twice : {A : Type 0} (d : A) (xs : List A)
      → turned_list d u (turned_width t w h) (turned_height t w h) (turned_list d t w h xs) ≡ turned_list d (t and_then u) w h xs
  turned_twice d xs =
      let n = area t w h in
      let m = turned_length u (turned_width t w h) (turned_height t w h) d (turned_list d t w h xs) in
      ext_get_or d _ _ (m ∙ n ∙ sym (turned_length (t and_then u) w h d xs))
      (λ k l.
      let p : k < turned_width t w h * turned_height t w h = rw m at l in
      let q : k < w * h = rw n at p in
      turned_at u (turned_width t w h) (turned_height t w h) d (turned_list d t w h xs) p
      ∙ turned_at t w h d xs (rw n at (source_lt u (turned_width t w h) (turned_height t w h) p))
      ∙ ap (λ x. get_or xs x d) (source_twice q)
      ∙ sym (turned_at (t and_then u) w h d xs q))

pub turn_twice : TurnTwice
turn_twice t u w h = (width_twice t u w h, height_twice t u w h, λ A d xs. turned_twice t u w h d xs)

-- ---- the turn back
turned_none : {A : Type 0} (d : A) (w h : ℕ) (xs : List A) → length xs ≡ w * h → turned_list d no_turn w h xs ≡ xs
unfolding source
turned_none d w h xs e =
    ext_get_or d _ _ (turned_length no_turn w h d xs ∙ sym e)
    (λ k l. turned_at no_turn w h d xs (rw (turned_length no_turn w h d xs) at l) ∙ ap (λ x. get_or xs x d) (div-add-mod' k w))

pub undone : (t : Turn) → t and_then inverse t ≡ no_turn
undone t = go t.reflected t.quarters
  where
    go : (f : Bool) (q : Quarters) → record { reflected = f; quarters = q } and_then inverse (record { reflected = f; quarters = q }) ≡ no_turn
    go true none = refl
    go true once = refl
    go true twice = refl
    go true thrice = refl
    go false none = refl
    go false once = refl
    go false twice = refl
    go false thrice = refl

pub turned_back : {A : Type 0} (d : A) (t : Turn) (w h : ℕ) (xs : List A) → length xs ≡ w * h
    → turned_list d (inverse t) (turned_width t w h) (turned_height t w h) (turned_list d t w h xs) ≡ xs
turned_back d t w h xs e = turned_twice t (inverse t) w h d xs ∙ ap (λ v. turned_list d v w h xs) (undone t) ∙ turned_none d w h xs e

pub turn_back : TurnBack
turn_back A d w h xs e = (turned_none d w h xs e, λ t. turned_back d t w h xs e)
