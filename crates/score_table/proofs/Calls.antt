-- Laws of the tests that come before the filling of entries and the choice of a row, and of what the two come to.
-- Assumes nothing.
use mathlib.Core.Path.{◌≡◌, refl, ◌∙◌, sym, ap}
use mathlib.Core.Bool.{Bool, true, false, cond, ◌&&◌}
use mathlib.Core.List.{List}
use Rattle.std.specs.Prelude.{Option, None, Some}
use Prim.Native.Nat.{ℕ, suc, ◌+◌, ◌-◌, ◌*◌, ◌^◌, ◌<◌, ◌≤◌}
use native.Mathlib.Nat.{mul-le-mul, mul-le-mul_right}
use native.Mathlib.Omega.{arith}
use borrow.Author.Tests.{le-leb, lt-leb, lt-ltb, le-ltb, eq-eqb, ne_eqb, leb-true, leb-false, ltb-true, ltb-false, eqb-true, eqb-false}
use lib.Dec.{eqb, leb, ltb}
use lib.ListN.{length}
use Rattle.board.specs.Boards.{max_width, max_height, max_mirror_width, width_fits}
use Rattle.board.proofs.Tests.{and_left, and_right}
use Rattle.elimination.specs.Candidates.{Choice, nothing, chosen}
use Rattle.elimination.specs.Kind.{choose}
use Rattle.elimination.specs.Table.{reads, fill_entries}
use Rattle.board.proofs.Widths.{width_le, width_of, width_fits_lem}
use Rattle.score_table.specs.Rows.{row_worth, row_kept, row_gain, marks_of, digits_of, row_for}
use Rattle.score_table.specs.ScoreTable.{absent, kind_for}
use Rattle.score_table.specs.Inner.{Memory, EntriesRead}
use Rattle.score_table.specs.Calls.{grid_fits, call_fits, layer_fits, fill_fits, fill_writes, gain_of, row_picked, picked_of}
use Rattle.score_table.specs.declared.Want.{Want}
use Rattle.board.specs.declared.ChosenRow.{ChosenRow}

-- ---- a layer, as the code tests it
pub layer_short : (bits n at : ℕ) → n < 4 ^ bits → false ≡ layer_fits bits n at
layer_short bits n at l = sym (lt-leb (at + 4 ^ bits) n (omega arith))

pub layer_within : (bits n at : ℕ) → 4 ^ bits ≤ n → leb at (n - 4 ^ bits) ≡ layer_fits bits n at
layer_within bits n at l = go (leb at (n - 4 ^ bits)) refl
  where
    go : (b : Bool) → leb at (n - 4 ^ bits) ≡ b → leb at (n - 4 ^ bits) ≡ layer_fits bits n at
    go true e = e ∙ sym (le-leb (at + 4 ^ bits) n (omega (arith, leb-true at (n - 4 ^ bits) e)))
    go false e = e ∙ sym (lt-leb (at + 4 ^ bits) n (omega (arith, leb-false at (n - 4 ^ bits) e)))

module _ (halves : Bool) (w h : ℕ) (g : List ℕ) where
  pub grid_wide : width_fits halves w ≡ false → false ≡ grid_fits halves w h g
  unfolding grid_fits
  grid_wide e = rw e

  module _ (e : width_fits halves w ≡ true) where
    -- a width that fits is at most 20
    pub grid_narrow : w ≤ max_mirror_width
    grid_narrow = width_le halves w (width_of halves w e)

    pub grid_tall : max_height < h → false ≡ grid_fits halves w h g
    unfolding grid_fits
    grid_tall l = rw (e, lt-leb h max_height l)

    pub grid_marks : h ≤ max_height → eqb (length g) (w * h) ≡ grid_fits halves w h g
    unfolding grid_fits
    grid_marks q = rw (e, le-leb h max_height q)

  pub grid_fits_lem : Memory halves w h g → grid_fits halves w h g ≡ true
  grid_fits_lem L = sym (grid_marks (width_fits_lem halves w L.width) L.low) ∙ eq-eqb (length g) (w * h) L.marks

  pub grid_of : grid_fits halves w h g ≡ true → Memory halves w h g
  unfolding grid_fits
  grid_of e =
      let wide = width_fits halves w in
      let low = leb h max_height in
      let marked = eqb (length g) (w * h) in
      let q = and_left (wide && low) marked e in record {
        width = width_of halves w (and_left wide low q);
        low = leb-true h max_height (and_right wide low q);
        marks = eqb-true (length g) (w * h) (and_right (wide && low) marked e);
      }

-- ---- what a row earns and 1
module _ (w h r c : ℕ) (g : List ℕ) where
  pub gain_unfit : grid_fits false w h g ≡ false → 0 ≡ gain_of w h r c g
  unfolding gain_of
  gain_unfit e = rw e

  module _ (e : grid_fits false w h g ≡ true) where
    pub gain_past : h ≤ r → 0 ≡ gain_of w h r c g
    unfolding gain_of
    gain_past l = rw (e, le-ltb r h l)

    module _ (l : r < h) where
      pub gain_lost : row_kept w g (r * w) c ≡ false → 0 ≡ gain_of w h r c g
      unfolding gain_of row_gain
      gain_lost n = rw (e, lt-ltb r h l, n)

      pub gain_kept : row_kept w g (r * w) c ≡ true → row_worth w g (r * w) c + 1 ≡ gain_of w h r c g
      unfolding gain_of row_gain
      gain_kept k = rw (e, lt-ltb r h l, k) (omega arith)

      -- the row's cells are within the memory
      pub gain_room : (w ≤ max_mirror_width) × (r * w + w ≤ length g)
      gain_room =
          let M = grid_of false w h g e in
          (width_le false w M.width, omega (arith, M.marks, mul-le-mul_right w l))

      pub gain_small : r * w ≤ max_mirror_width * max_height
      gain_small = let M = grid_of false w h g e in omega (arith, mul-le-mul (width_le false w M.width) M.low, mul-le-mul_right w l)

      pub gain_row : gain_of w h r c g ≡ row_gain w g (r * w) c
      unfolding gain_of
      gain_row = rw (e, lt-ltb r h l)

module _ (want : Want) (w h : ℕ) (g : List ℕ) where
  -- ---- the numbers, as the code tests them
  pub call_unfit : grid_fits want.halves w h g ≡ false → false ≡ call_fits want w h g
  call_unfit e = rw e

  pub call_numbers : grid_fits want.halves w h g ≡ true → ltb want.limit (absent - w) ≡ call_fits want w h g
  call_numbers L = go (ltb want.limit (absent - w)) refl
    where
      go : (b : Bool) → ltb want.limit (absent - w) ≡ b → ltb want.limit (absent - w) ≡ call_fits want w h g
      go true e = e ∙ sym (rw (L, lt-ltb (want.limit + w) absent (omega (arith, ltb-true want.limit (absent - w) e))))
      go false e = e ∙ sym (rw (L, le-ltb (want.limit + w) absent (omega (arith, ltb-false want.limit (absent - w) e))))

  pub call_fits_lem : Memory want.halves w h g → want.limit + w < absent → call_fits want w h g ≡ true
  call_fits_lem L l = rw (grid_fits_lem want.halves w h g L, lt-ltb (want.limit + w) absent l)

  pub call_memory : call_fits want w h g ≡ true → Memory want.halves w h g
  call_memory e = grid_of want.halves w h g (and_left (grid_fits want.halves w h g) (ltb (want.limit + w) absent) e)

  pub call_small : call_fits want w h g ≡ true → want.limit + w < absent
  call_small e = ltb-true (want.limit + w) absent (and_right (grid_fits want.halves w h g) (ltb (want.limit + w) absent) e)

  -- past the tests a row's number is short
  pub call_narrow : {fits : Bool} {bits : ℕ} → fits ≡ call_fits want w h g → fits ≡ true → bits ≡ digits_of want w → bits ≤ max_width
  call_narrow e f b = rw b (call_memory (sym e ∙ f)).width.narrow

  -- ---- the filling of entries
  module _ (k source target j m n : ℕ) where
    abbrev fitted : Bool
    fitted = fill_fits want w h k source target j m g n

    pub fits_unfit : call_fits want w h g ≡ false → false ≡ fitted
    unfolding fill_fits
    fits_unfit e = rw e

    module _ (e : call_fits want w h g ≡ true) where
      pub fits_past : h ≤ k → false ≡ fitted
      unfolding fill_fits
      fits_past l = rw (e, le-ltb k h l)

      module _ (l : k < h) where
        pub fits_outside : 4 ^ digits_of want w < j + m → false ≡ fitted
        unfolding fill_fits
        fits_outside o = rw (e, lt-ltb k h l, lt-leb (j + m) (4 ^ digits_of want w) o)

        module _ (i : j + m ≤ 4 ^ digits_of want w) where
          pub fits_target : layer_fits (digits_of want w) n target ≡ false → false ≡ fitted
          unfolding fill_fits
          fits_target f = rw (e, lt-ltb k h l, le-leb (j + m) (4 ^ digits_of want w) i, f)

          pub fits_last : layer_fits (digits_of want w) n target ≡ true → k ≡ 0 → true ≡ fitted
          unfolding fill_fits
          fits_last f z = rw (e, lt-ltb k h l, le-leb (j + m) (4 ^ digits_of want w) i, f, eq-eqb k 0 z)

          pub fits_source : layer_fits (digits_of want w) n target ≡ true → (k ≡ 0 → ⊥) → layer_fits (digits_of want w) n source ≡ fitted
          unfolding fill_fits
          fits_source f z = rw (e, lt-ltb k h l, le-leb (j + m) (4 ^ digits_of want w) i, f, ne_eqb k 0 z)

  source_when : (b x : Bool) → cond b true x ≡ true → b ≡ false → x ≡ true
  source_when b x e f = rw f at e

  pub fits_read : (k source target j m : ℕ) (t : List ℕ) → fill_fits want w h k source target j m g (length t) ≡ true
      → EntriesRead want w h k source j m g t × (want.limit + w < absent) × (target + 4 ^ digits_of want w ≤ length t)
  unfolding fill_fits
  fits_read k source target j m t e =
      let a = call_fits want w h g in
      let b = ltb k h in
      let c = leb (j + m) (4 ^ digits_of want w) in
      let d = layer_fits (digits_of want w) (length t) target in
      let s = cond (eqb k 0) true (layer_fits (digits_of want w) (length t) source) in
      let p3 = and_left (a && b && c && d) s e in
      let p2 = and_left (a && b && c) d p3 in
      let p1 = and_left (a && b) c p2 in (
        record {
          memory = call_memory (and_left a b p1);
          after = ltb-true k h (and_right a b p1);
          inside = leb-true (j + m) (4 ^ digits_of want w) (and_right (a && b) c p2);
          layer = λ z. leb-true (source + 4 ^ digits_of want w) (length t)
              (source_when (eqb k 0) (layer_fits (digits_of want w) (length t) source) (and_right (a && b && c && d) s e) (ne_eqb k 0 z));
        },
        call_small (and_left a b p1),
        leb-true (target + 4 ^ digits_of want w) (length t) (and_right (a && b && c) d p3),
      )

  pub read_fits : (k source target j m : ℕ) (t : List ℕ) → EntriesRead want w h k source j m g t → want.limit + w < absent → target + 4 ^ digits_of want w ≤ length t
      → fill_fits want w h k source target j m g (length t) ≡ true
  read_fits k source target j m t R s l = go (eqb k 0) refl
    where
      go : (b : Bool) → eqb k 0 ≡ b → fill_fits want w h k source target j m g (length t) ≡ true
      go true e = sym (fits_last k source target j m (length t) (call_fits_lem R.memory s) R.after R.inside (le-leb (target + 4 ^ digits_of want w) (length t) l) (eqb-true k 0 e))
      go false e =
          let z = eqb-false k 0 e in
          sym (fits_source k source target j m (length t) (call_fits_lem R.memory s) R.after R.inside (le-leb (target + 4 ^ digits_of want w) (length t) l) z)
          ∙ le-leb (source + 4 ^ digits_of want w) (length t) (R.layer z)

  module _ (next : ℕ → ℕ) (k source target j m : ℕ) (t : List ℕ) where
    pub fill_unfit : fill_fits want w h k source target j m g (length t) ≡ false → t ≡ fill_writes want next w h k source target j m g t
    unfolding fill_writes
    fill_unfit e = rw e

    pub fill_done : fill_fits want w h k source target j m g (length t) ≡ true
        → fill_entries (kind_for want next w h g) k source target j m t ≡ fill_writes want next w h k source target j m g t
    unfolding fill_writes
    fill_done e = rw e

  -- ---- the choice of a row
  module _ (next : ℕ → ℕ) (r source above last : ℕ) (t : List ℕ) where
    abbrev wanted : Option ChosenRow
    wanted = picked_of want w g r (row_picked want next w h r source above last g t)

    abbrev choice : Choice ℕ
    choice = choose (kind_for want next w h g) (h - suc r) above last (reads (kind_for want next w h g) t source last)

    pub picks_unfit : call_fits want w h g ≡ false → None ≡ wanted
    unfolding row_picked
    picks_unfit e = rw e

    module _ (e : call_fits want w h g ≡ true) where
      pub picks_past : h ≤ r → None ≡ wanted
      unfolding row_picked
      picks_past l = rw (e, le-ltb r h l)

      module _ (l : r < h) where
        pub picks_short : layer_fits (digits_of want w) (length t) source ≡ false → None ≡ wanted
        unfolding row_picked
        picks_short f = rw (e, lt-ltb r h l, f)

        module _ (f : layer_fits (digits_of want w) (length t) source ≡ true) where
          pub picks_above : 2 ^ digits_of want w ≤ above → None ≡ wanted
          unfolding row_picked
          picks_above m = rw (e, lt-ltb r h l, f, le-ltb above (2 ^ digits_of want w) m)

          pub picks_last : above < 2 ^ digits_of want w → 2 ^ digits_of want w ≤ last → None ≡ wanted
          unfolding row_picked
          picks_last m n = rw (e, lt-ltb r h l, f, lt-ltb above (2 ^ digits_of want w) m, le-ltb last (2 ^ digits_of want w) n)

          module _ (m : above < 2 ^ digits_of want w) (n : last < 2 ^ digits_of want w) where
            pub picked_choice : row_picked want next w h r source above last g t ≡ choice
            unfolding row_picked
            picked_choice = rw (e, lt-ltb r h l, f, lt-ltb above (2 ^ digits_of want w) m, lt-ltb last (2 ^ digits_of want w) n)

            pub picks_choice : {o : Choice ℕ} → o ≡ choice → picked_of want w g r o ≡ wanted
            picks_choice q = ap (picked_of want w g r) (q ∙ sym picked_choice)

            pub picks_row : {c n x : ℕ} → chosen c n ≡ choice → x ≡ row_worth w (marks_of want.predecessor g) (r * w) (row_for want w c) → Some (record { row = c; worth = x }) ≡ wanted
            picks_row q e = rw e (picks_choice q)

-- ---- what the answer tells of the choice
module _ (want : Want) (w : ℕ) (g : List ℕ) (r : ℕ) where
  pub picked_nothing : (o : Choice ℕ) → None ≡ picked_of want w g r o → o ≡ nothing
  picked_nothing nothing e = refl
  picked_nothing (chosen c n) e = absurd (let z : ◌≡◌ {A = ℕ} 0 1 = cc in omega arith)

  -- row c was chosen, and x is its worth
  pub record PickedRow (o : Choice ℕ) (c x : ℕ) : Type 0 where
    pub sum : ℕ
    pub is : o ≡ chosen c sum
    pub worth : x ≡ row_worth w (marks_of want.predecessor g) (r * w) (row_for want w c)

  pub picked_row : (o : Choice ℕ) (row : ChosenRow) → Some row ≡ picked_of want w g r o → PickedRow o row.row row.worth
  picked_row nothing row e = absurd (let z : ◌≡◌ {A = ℕ} 0 1 = cc in omega arith)
  picked_row (chosen d n) row e =
      let p : row ≡ record { row = d; worth = row_worth w (marks_of want.predecessor g) (r * w) (row_for want w d) } = cc in
      let c : row.row ≡ d = ap (λ (x : ChosenRow). x.row) p in
      let q : row.worth ≡ row_worth w (marks_of want.predecessor g) (r * w) (row_for want w d) = ap (λ (x : ChosenRow). x.worth) p in
      record { sum = n; is = rw c; worth = rw c q }
