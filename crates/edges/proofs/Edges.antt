-- Laws of cells given live and of edge threes: where such a cell stands, and the three cells of an edge three.
-- Assumes nothing.
use mathlib.Core.Path.{◌≡◌, refl}
use mathlib.Core.Bool.{Bool, true, false, cond, ◌&&◌, ◌||◌}
use mathlib.Core.List.{List}
use mathlib.Core.Logic.{◌⊎◌, inl, inr, ⊎_elim}
use Prim.Native.Nat.{ℕ, zero, suc, ◌+◌, ◌*◌, ◌-◌, ◌/◌, ◌%◌, ◌<◌, ◌≤◌}
use native.Mathlib.Decide.{dec_lt}
use native.Mathlib.Nat.{div-add-mod'}
use native.Mathlib.Numerals.{add-one}
use native.Mathlib.Omega.{arith}
use borrow.Author.Tests.{eqb-true}
use lib.Arith.{digits_lt, digits_div, digits_mod}
use lib.Dec.{eqb}
use lib.ListN.{length, get_or, get_or-eq_default}
use Rattle.board.specs.Boards.{among}
use Rattle.board.proofs.Tests.{and_left, and_right, or_true, among_in}
use Rattle.edges.specs.Edges.{given_live_at, at_edge, along_row, along_column, edge_three, edge_three_at}

pub one_less : (n : ℕ) → n + 1 - 1 ≡ n
one_less n = omega arith

-- a cell that is given live, and its place
pub record GivenLive (w h : ℕ) (g : List ℕ) (r c : ℕ) : Type 0 where
  pub some_row : 0 < r
  pub high : r ≤ h
  pub some_column : 0 < c
  pub wide : c ≤ w
  pub mark : get_or g ((r - 1) * w + (c - 1)) 0 ≡ 2

module _ (w h : ℕ) (g : List ℕ) where
  module _ (r c : ℕ) where
    live_of : given_live_at w h g r c ≡ true → GivenLive w h g r c
    unfolding given_live_at
    live_of e = go (among h r) (among w c) refl refl (eqb-true _ _ e)
      where
        go : (s t : Bool) → among h r ≡ s → among w c ≡ t → cond (s && t) (get_or g ((r - 1) * w + (c - 1)) 0) 0 ≡ 2 → GivenLive w h g r c
        go true true p q m =
            let a = among_in h r p in
            let b = among_in w c q in
            record { some_row = a.0; high = a.1; some_column = b.0; wide = b.1; mark = m }
        go true false p q m = absurd (omega arith)
        go false t p q m = absurd (omega arith)

    -- the middle of an edge three is given live
    pub middle_live : edge_three w h g r c ≡ true → GivenLive w h g r c
    unfolding edge_three
    middle_live e = live_of (and_right (along_row w h g r c || along_column w h g r c) (given_live_at w h g r c) e)

  -- its place lies among the givens, and is its row's and its column's
  module _ {r c : ℕ} (s : GivenLive w h g r c) where
    pub place_marked : (r - 1) * w + (c - 1) < length g
    place_marked =
        elim (dec_lt ((r - 1) * w + (c - 1)) (length g)) [
          | yes l ↦ l
          | no n ↦ let e : get_or g ((r - 1) * w + (c - 1)) 0 ≡ 0 = get_or-eq_default g 0 (omega arith) in absurd (omega (arith, s.mark))
        ]

    pub place_inside : (r - 1) * w + (c - 1) < h * w
    place_inside = digits_lt {q = r - 1} {m = h} {r = c - 1} {c = w} (omega (arith, s.some_row, s.high)) (omega (arith, s.some_column, s.wide))

    pub place_middle : edge_three_at w h g ((r - 1) * w + (c - 1)) ≡ edge_three w h g r c
    place_middle =
        let l : c - 1 < w = omega (arith, s.some_column, s.wide) in
        let p : ((r - 1) * w + (c - 1)) / w + 1 ≡ r = omega (arith, digits_div (r - 1) l, s.some_row) in
        let q : ((r - 1) * w + (c - 1)) % w + 1 ≡ c = omega (arith, digits_mod (r - 1) l, s.some_column) in
        rw (p, q)

  -- the place of a middle cell is among the givens and in the grid
  pub middle_place : (p : ℕ) → edge_three_at w h g p ≡ true → (p < length g) × (p < h * w)
  middle_place p e =
      let s = middle_live (p / w + 1) (p % w + 1) e in
      let q : (p / w + 1 - 1) * w + (p % w + 1 - 1) ≡ p = rw (one_less (p / w), one_less (p % w)) (div-add-mod' p w) in
      (rw q at (place_marked s), rw q at (place_inside s))

  -- without a column there is none
  pub middle_none : (r c : ℕ) → w ≡ 0 → edge_three w h g r c ≡ false
  middle_none r c z = go (edge_three w h g r c) refl
    where
      go : (t : Bool) → edge_three w h g r c ≡ t → t ≡ false
      go false e = refl
      go true e = let s = middle_live r c e in absurd (omega (arith, s.some_column, s.wide))

-- ---- an edge three: its middle cell with the two beside it along the edge
pub data EdgeThree (w h : ℕ) (g : List ℕ) : ℕ → ℕ → Type 0 where
  along_row_lem : {r c : ℕ} → (r ≡ 1) ⊎ (r ≡ h) → GivenLive w h g r c → GivenLive w h g r (suc c) → GivenLive w h g r (suc (suc c)) → EdgeThree w h g r (suc c)
  along_column_lem : {r c : ℕ} → (c ≡ 1) ⊎ (c ≡ w) → GivenLive w h g r c → GivenLive w h g (suc r) c → GivenLive w h g (suc (suc r)) c → EdgeThree w h g (suc r) c

at_edge_lem : (n i : ℕ) → at_edge n i ≡ true → (i ≡ 1) ⊎ (i ≡ n)
at_edge_lem n i e = ⊎_elim (λ (p : eqb i 1 ≡ true). inl (eqb-true i 1 p)) (λ (p : eqb i n ≡ true). inr (eqb-true i n p)) (or_true (eqb i 1) (eqb i n) e)

pub edge_three_of : (w h : ℕ) (g : List ℕ) (r c : ℕ) → edge_three w h g r c ≡ true → EdgeThree w h g r c
unfolding edge_three
edge_three_of w h g r c e =
    let live = given_live_at w h g in
    let s = live_of w h g r c (and_right (along_row w h g r c || along_column w h g r c) (live r c) e) in
    ⊎_elim
    (λ (p : at_edge h r && live r (c - 1) && live r (c + 1) ≡ true).
    let q = and_left (at_edge h r && live r (c - 1)) (live r (c + 1)) p in
    in_row c s (at_edge_lem h r (and_left (at_edge h r) (live r (c - 1)) q)) (live_of w h g r (c - 1) (and_right (at_edge h r) (live r (c - 1)) q))
    (live_of w h g r (c + 1) (and_right (at_edge h r && live r (c - 1)) (live r (c + 1)) p)))
    (λ (p : at_edge w c && live (r - 1) c && live (r + 1) c ≡ true).
    let q = and_left (at_edge w c && live (r - 1) c) (live (r + 1) c) p in
    in_column r s (at_edge_lem w c (and_left (at_edge w c) (live (r - 1) c) q)) (live_of w h g (r - 1) c (and_right (at_edge w c) (live (r - 1) c) q))
    (live_of w h g (r + 1) c (and_right (at_edge w c && live (r - 1) c) (live (r + 1) c) p)))
    (or_true (along_row w h g r c) (along_column w h g r c) (and_left (along_row w h g r c || along_column w h g r c) (live r c) e))
  where
    pred : (n : ℕ) → suc n - 1 ≡ n
    pred n = omega arith

    in_row : (c : ℕ) → GivenLive w h g r c → (r ≡ 1) ⊎ (r ≡ h) → GivenLive w h g r (c - 1) → GivenLive w h g r (c + 1) → EdgeThree w h g r c
    in_row zero s e a b = absurd (omega (arith, s.some_column))
    in_row (suc c) s e a b = along_row_lem e (rw (pred c) at a) s (rw (add-one (suc c)) at b)

    in_column : (r : ℕ) → GivenLive w h g r c → (c ≡ 1) ⊎ (c ≡ w) → GivenLive w h g (r - 1) c → GivenLive w h g (r + 1) c → EdgeThree w h g r c
    in_column zero s e a b = absurd (omega (arith, s.some_row))
    in_column (suc r) s e a b = along_column_lem e (rw (pred r) at a) s (rw (add-one (suc r)) at b)
