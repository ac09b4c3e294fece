-- An edge three turns into an edge three: the left-right reflection and the one in the diagonal keep a cell's neighbours along its row and its column, and
-- edges stay edges. So the check of edge threes passes on a grid exactly when it passes on the turned grid.
-- Assumes nothing.
use mathlib.Core.Path.{◌≡◌, refl, sym, ◌∙◌, ap, ap₂}
use mathlib.Core.Bool.{Bool, true, false, ◌&&◌, ◌||◌}
use mathlib.Core.List.{List}
use mathlib.Core.Logic.{◌↔◌}
use Prim.Native.Nat.{ℕ, ◌+◌, ◌*◌, ◌-◌, ◌<◌, ◌≤◌}
use native.Mathlib.Omega.{arith}
use borrow.Author.Tests.{eq-eqb, ne_eqb, eqb-true, eqb-false}
use lib.Dec.{eqb}
use lib.IntN.{pos}
use lib.ListN.{length}
use Rattle.board.specs.Answers.{passed}
use Rattle.rule.specs.declared.Rule.{Rule}
use Rattle.edges.specs.Edges.{given_live_at, at_edge, along_row, along_column, edge_three, born_on3, edge_check}
use Rattle.edges.proofs.Edges.{middle_live}
use Rattle.edges.proofs.Theorems.{edge_checks_right}
use Rattle.life.specs.Plane.{on_plane}
use Rattle.turns.specs.Turn.{Turn, reflection, diagonal, ◌and_then◌, inverse, turned_width, turned_height, Cell, cell_from, turned_bytes}
use Rattle.turns.proofs.Cells.{Inside, diagonal_from, width_twice, height_twice, from_inside, from_twice}
use Rattle.turns.proofs.Places.{turned_twice}
use Rattle.turns.proofs.Eight.{every_turn}
use Rattle.turned_grids.specs.Grids.{EdgeThreesTurned}
use Rattle.turned_grids.proofs.Planes.{flip_at, reflected_plane, diagonal_plane}
use Rattle.turned_grids.proofs.Grids.{back}

-- ---- tests
and_swap : (a b c : Bool) → a && b && c ≡ a && c && b
and_swap false b c = refl
and_swap true false false = refl
and_swap true false true = refl
and_swap true true false = refl
and_swap true true true = refl

or_swap : (a b : Bool) → a || b ≡ b || a
or_swap true true = refl
or_swap true false = refl
or_swap false true = refl
or_swap false false = refl

same_test : (a b c d : ℕ) → (a ≡ b → c ≡ d) → (c ≡ d → a ≡ b) → eqb a b ≡ eqb c d
same_test a b c d f g = go (eqb a b) refl
  where
    go : (t : Bool) → eqb a b ≡ t → t ≡ eqb c d
    go true e = sym (eq-eqb c d (f (eqb-true a b e)))
    go false e = sym (ne_eqb c d (λ p. eqb-false a b e (g p)))

-- in reverse the first is the last, and the last the first
edge_reversed : (n i j : ℕ) → i + j ≡ n + 1 → at_edge n i ≡ at_edge n j
edge_reversed n i j e =
    ap₂ ◌||◌ (same_test i 1 j n (λ p. omega arith) (λ p. omega arith)) (same_test i n j 1 (λ p. omega arith) (λ p. omega arith)) ∙ or_swap (eqb j n) (eqb j 1)

-- ---- cells given live
module _ (w h : ℕ) (g : List ℕ) where
  live_reflected : (r c : ℕ) → c ≤ w + 1 → given_live_at w h (turned_bytes reflection w h g) r c ≡ given_live_at w h g r (w + 1 - c)
  unfolding given_live_at on_plane
  live_reflected r c l = ap (λ (x : ℕ). eqb x 2) (reflected_plane w h g (pos r) (pos c) ∙ ap (on_plane w h g (pos r)) (flip_at w c l))

  live_diagonal : (r c : ℕ) → given_live_at h w (turned_bytes diagonal w h g) r c ≡ given_live_at w h g c r
  unfolding given_live_at on_plane
  live_diagonal r c = ap (λ (x : ℕ). eqb x 2) (diagonal_plane w h g (pos r) (pos c))

  -- ---- left-right, and in the diagonal
  edge_reflected : (i j : ℕ) → i < h → j < w → edge_three w h (turned_bytes reflection w h g) (i + 1) (j + 1) ≡ edge_three w h g (i + 1) (w - 1 - j + 1)
  unfolding edge_three
  edge_reflected i j p q =
      let live = given_live_at w h g in
      let d = w - 1 - j + 1 in
      let before : given_live_at w h (turned_bytes reflection w h g) (i + 1) (j + 1 - 1) ≡ live (i + 1) (d + 1) =
      live_reflected (i + 1) (j + 1 - 1) (omega arith) ∙ ap (live (i + 1)) (omega arith) in
      let after : given_live_at w h (turned_bytes reflection w h g) (i + 1) (j + 1 + 1) ≡ live (i + 1) (d - 1) =
      live_reflected (i + 1) (j + 1 + 1) (omega arith) ∙ ap (live (i + 1)) (omega arith) in
      let here : (r : ℕ) → given_live_at w h (turned_bytes reflection w h g) r (j + 1) ≡ live r d =
      λ r. live_reflected r (j + 1) (omega arith) ∙ ap (live r) (omega arith) in
      ap₂ ◌&&◌
      (ap₂ ◌||◌
      (ap₂ (λ x y. at_edge h (i + 1) && x && y) before after ∙ and_swap (at_edge h (i + 1)) (live (i + 1) (d + 1)) (live (i + 1) (d - 1)))
      (ap₂ ◌&&◌ (ap₂ ◌&&◌ (edge_reversed w (j + 1) d (omega arith)) (here (i + 1 - 1))) (here (i + 1 + 1))))
      (here (i + 1))

  edge_diagonal : (r c : ℕ) → edge_three h w (turned_bytes diagonal w h g) r c ≡ edge_three w h g c r
  unfolding edge_three
  edge_diagonal r c =
      ap₂ ◌&&◌
      (ap₂ ◌||◌ (ap₂ (λ x y. at_edge w r && x && y) (live_diagonal r (c - 1)) (live_diagonal r (c + 1)))
      (ap₂ (λ x y. at_edge h c && x && y) (live_diagonal (r - 1) c) (live_diagonal (r + 1) c))
      ∙ or_swap (along_column w h g c r) (along_row w h g c r))
      (live_diagonal r c)

-- ---- all eight turns
abbrev EdgeKept : Turn → Type 0
EdgeKept t =
    (w h : ℕ) (g : List ℕ) (s : Cell) → Inside (turned_width t w h) (turned_height t w h) s
    → edge_three (turned_width t w h) (turned_height t w h) (turned_bytes t w h g) (s.row + 1) (s.column + 1)
    ≡ edge_three w h g ((cell_from t w h s).row + 1) ((cell_from t w h s).column + 1)

edge_kept : (t : Turn) → EdgeKept t
edge_kept =
    every_turn EdgeKept (λ w h g s i. edge_reflected w h g s.row s.column i.low i.narrow)
    (λ w h g s i.
    edge_diagonal w h g (s.row + 1) (s.column + 1)
    ∙ ap (λ (x : Cell). edge_three w h g (x.row + 1) (x.column + 1)) (sym (diagonal_from w h i))) twice
  where
    twice : (t u : Turn) → EdgeKept t → EdgeKept u → EdgeKept (t and_then u)
    twice t u p q w h g s i =
        let W = turned_width t w h in
        let H = turned_height t w h in
        let j : Inside (turned_width u W H) (turned_height u W H) s = rw (width_twice t u w h, height_twice t u w h) i in
        rw (← width_twice t u w h, ← height_twice t u w h, ← turned_twice t u w h 0 g)
        (q W H (turned_bytes t w h g) s j
        ∙ p w h g (cell_from u W H s) (from_inside u j)
        ∙ ap (λ (x : Cell). edge_three w h g (x.row + 1) (x.column + 1)) (from_twice t u w h j))

pub edge_threes_turned : EdgeThreesTurned
edge_threes_turned t w h g s p q = edge_kept t w h g s (record { low = p; narrow = q })

-- ---- the check
edges_kept : (rule : Rule) (t : Turn) (w h : ℕ) (g : List ℕ) → edge_check rule w h g ≡ passed
    → edge_check rule (turned_width t w h) (turned_height t w h) (turned_bytes t w h g) ≡ passed
edges_kept rule t w h g e = go (born_on3 rule) refl
  where
    W : ℕ
    W = turned_width t w h

    H : ℕ
    H = turned_height t w h

    tg : List ℕ
    tg = turned_bytes t w h g

    none_here : born_on3 rule ≡ true → (r c : ℕ) (v : Bool) → edge_three W H tg r c ≡ v → v ≡ false
    none_here births r c false m = refl
    none_here births r c true m =
        let s = middle_live W H tg r c m in
        let p : r - 1 + 1 ≡ r = omega (arith, s.some_row) in
        let q : c - 1 + 1 ≡ c = omega (arith, s.some_column) in
        let k = edge_threes_turned t w h g (record { row = r - 1; column = c - 1 }) (omega (arith, s.some_row, s.high)) (omega (arith, s.some_column, s.wide)) in
        sym m ∙ (rw (p, q) at k) ∙ ((edge_checks_right rule w h g).passes births).0 e _ _

    go : (v : Bool) → born_on3 rule ≡ v → edge_check rule W H tg ≡ passed
    go true births = ((edge_checks_right rule W H tg).passes births).1 (λ r c. none_here births r c (edge_three W H tg r c) refl)
    go false other = (edge_checks_right rule W H tg).other other

pub edges_turned : (rule : Rule) (t : Turn) (w h : ℕ) (g : List ℕ) → length g ≡ w * h
    → edge_check rule w h g ≡ passed ↔ edge_check rule (turned_width t w h) (turned_height t w h) (turned_bytes t w h g) ≡ passed
edges_turned rule t w h g e = (
  edges_kept rule t w h g,
  λ p. back t w h (λ w h xs. edge_check rule w h xs ≡ passed) g e (edges_kept rule (inverse t) (turned_width t w h) (turned_height t w h) (turned_bytes t w h g) p),
)
