-- Two turns of a cell are one turn of it: four quarter turns undo themselves, and a reflection turns the quarter turns before it round.
-- Assumes nothing.
use mathlib.Core.Path.{◌≡◌, refl, sym, ◌∙◌, ap}
use mathlib.Core.Bool.{Bool, true, false, not, cond}
use Prim.Native.Nat.{ℕ, ◌<◌}
use native.Mathlib.Omega.{arith}
use Rattle.turns.specs.Turn.{Quarters, none, once, twice, thrice, Turn, diagonal, one_more, plus, back, one_of, ◌and_then◌, side_after, turned_width, turned_height, Cell, reflect, quarter, quarters_from, reflect_from, cell_from}

-- a cell of a grid w wide and h high
pub record Inside (w h : ℕ) (s : Cell) : Type 0 where
  pub low : s.row < h
  pub narrow : s.column < w

pub same_cell : {a b : Cell} → a.row ≡ b.row → a.column ≡ b.column → a ≡ b
same_cell p q = λ i. record { row = p i; column = q i }

-- ---- a cell reads a cell of the grid
quarter_inside : {w h : ℕ} {s : Cell} → Inside h w s → Inside w h (quarter w h s)
quarter_inside i = record { low = omega arith; narrow = omega arith }

quarters_inside : (q : Quarters) {w h : ℕ} {s : Cell} → Inside (side_after q w h) (side_after q h w) s → Inside w h (quarters_from q w h s)
quarters_inside none i = i
quarters_inside once i = quarter_inside i
quarters_inside twice i = quarter_inside (quarter_inside i)
quarters_inside thrice i = quarter_inside (quarter_inside (quarter_inside i))

reflect_inside : (f : Bool) {w h : ℕ} {s : Cell} → Inside w h s → Inside w h (reflect_from f w s)
reflect_inside true i = record { low = i.low; narrow = omega arith }
reflect_inside false i = i

pub from_inside : (t : Turn) {w h : ℕ} {s : Cell} → Inside (turned_width t w h) (turned_height t w h) s → Inside w h (cell_from t w h s)
from_inside t i = reflect_inside t.reflected (quarters_inside t.quarters i)

-- ---- sides
side_more : (q : Quarters) (w h : ℕ) → side_after (one_more q) w h ≡ side_after q h w
side_more none w h = refl
side_more once w h = refl
side_more twice w h = refl
side_more thrice w h = refl

side_plus : (a b : Quarters) (w h : ℕ) → side_after b (side_after a w h) (side_after a h w) ≡ side_after (plus a b) w h
side_plus none b w h = refl
side_plus once b w h = sym (side_more b w h)
side_plus twice b w h = sym (side_more (one_more b) w h ∙ side_more b h w)
side_plus thrice b w h = sym (side_more (one_more (one_more b)) w h ∙ side_more (one_more b) h w ∙ side_more b w h)

side_back : (a : Quarters) (w h : ℕ) → side_after (back a) w h ≡ side_after a w h
side_back none w h = refl
side_back once w h = refl
side_back twice w h = refl
side_back thrice w h = refl

side_twice : (g : Bool) (a b : Quarters) (w h : ℕ) → side_after b (side_after a w h) (side_after a h w) ≡ side_after (plus (cond g (back a) a) b) w h
side_twice true a b w h = rw (← side_back a w h, ← side_back a h w) (side_plus (back a) b w h)
side_twice false a b w h = side_plus a b w h

pub width_twice : (t u : Turn) (w h : ℕ) → turned_width u (turned_width t w h) (turned_height t w h) ≡ turned_width (t and_then u) w h
width_twice t u w h = side_twice u.reflected t.quarters u.quarters w h

pub height_twice : (t u : Turn) (w h : ℕ) → turned_height u (turned_width t w h) (turned_height t w h) ≡ turned_height (t and_then u) w h
height_twice t u w h = side_twice u.reflected t.quarters u.quarters h w

-- ---- quarter turns
-- one more; the fourth undoes the other three
more_from : (q : Quarters) (w h : ℕ) {s : Cell} → Inside (side_after q h w) (side_after q w h) s → quarter w h (quarters_from q h w s) ≡ quarters_from (one_more q) w h s
more_from none w h i = refl
more_from once w h i = refl
more_from twice w h i = refl
more_from thrice w h i = same_cell (omega arith) (omega arith)

more_inside : (q : Quarters) (w h : ℕ) {s : Cell} → Inside (side_after q h w) (side_after q w h) s → Inside (side_after (one_more q) w h) (side_after (one_more q) h w) s
more_inside q w h i = rw (side_more q w h, side_more q h w) i

two_from : (q : Quarters) (w h : ℕ) {s : Cell} → Inside (side_after q w h) (side_after q h w) s
    → quarter w h (quarter h w (quarters_from q w h s)) ≡ quarters_from (one_more (one_more q)) w h s
two_from q w h i = ap (quarter w h) (more_from q h w i) ∙ more_from (one_more q) w h (more_inside q h w i)

-- a cell of the grid turned by a and then by b
abbrev After : Quarters → Quarters → ℕ → ℕ → Cell → Type 0
After a b w h s = Inside (side_after b (side_after a w h) (side_after a h w)) (side_after b (side_after a h w) (side_after a w h)) s

plus_from : (a b : Quarters) (w h : ℕ) {s : Cell} → After a b w h s
    → quarters_from a w h (quarters_from b (side_after a w h) (side_after a h w) s) ≡ quarters_from (plus a b) w h s
plus_from none b w h i = refl
plus_from once b w h i = more_from b w h i
plus_from twice b w h i = two_from b w h i
plus_from thrice b w h i = ap (λ x. quarter w h (quarter h w x)) (more_from b w h i) ∙ two_from (one_more b) w h (more_inside b w h i)

-- ---- reflections
-- a reflection after quarter turns is one before as many the other way round
reflect_from_lem : (a : Quarters) (w h : ℕ) {s : Cell} → Inside (side_after a w h) (side_after a h w) s
    → quarters_from a w h (reflect (side_after a w h) s) ≡ reflect w (quarters_from (back a) w h s)
reflect_from_lem none w h i = refl
reflect_from_lem once w h i = same_cell (omega arith) (omega arith)
reflect_from_lem twice w h i = refl
reflect_from_lem thrice w h i = same_cell (omega arith) (omega arith)

reflect_twice : (f : Bool) {w h : ℕ} {s : Cell} → Inside w h s → reflect_from f w (reflect w s) ≡ reflect_from (not f) w s
reflect_twice true i = same_cell refl (omega arith)
reflect_twice false i = refl

back_from : (a b : Quarters) (w h : ℕ) {s : Cell} → After a b w h s
    → quarters_from (back a) w h (quarters_from b (side_after a w h) (side_after a h w) s) ≡ quarters_from (plus (back a) b) w h s
back_from none b w h i = plus_from none b w h i
back_from once b w h i = plus_from thrice b w h i
back_from twice b w h i = plus_from twice b w h i
back_from thrice b w h i = plus_from once b w h i

-- ---- turns
both_from : (f : Bool) (a : Quarters) (g : Bool) (b : Quarters) (w h : ℕ) {s : Cell} → After a b w h s
    → reflect_from f w (quarters_from a w h (reflect_from g (side_after a w h) (quarters_from b (side_after a w h) (side_after a h w) s)))
    ≡ reflect_from (one_of g f) w (quarters_from (plus (cond g (back a) a) b) w h s)
both_from f a true b w h i =
    let j = quarters_inside b i in
    ap (reflect_from f w) (reflect_from_lem a w h j)
    ∙ reflect_twice f (quarters_inside (back a) (rw (side_back a w h, side_back a h w) j))
    ∙ ap (reflect_from (not f) w) (back_from a b w h i)
both_from f a false b w h i = ap (reflect_from f w) (plus_from a b w h i)

-- what a cell of the grid turned by t and then by u reads, it reads by t and_then u
pub from_twice : (t u : Turn) (w h : ℕ) {s : Cell}
    → Inside (turned_width u (turned_width t w h) (turned_height t w h)) (turned_height u (turned_width t w h) (turned_height t w h)) s
    → cell_from t w h (cell_from u (turned_width t w h) (turned_height t w h) s) ≡ cell_from (t and_then u) w h s
from_twice t u w h i = both_from t.reflected t.quarters u.reflected u.quarters w h i

-- the diagonal reads rows for columns
pub diagonal_from : (w h : ℕ) {s : Cell} → Inside h w s → cell_from diagonal w h s ≡ record { row = s.column; column = s.row }
diagonal_from w h i = same_cell (omega arith) (omega arith)
