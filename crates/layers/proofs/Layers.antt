-- A layer that is filled eight rows b at a time: what a column and the last two leave, what eight rows more add to the layer, and that the whole is its
-- entries one after the other.
-- Assumes nothing.
use mathlib.Core.Path.{◌≡◌, refl, ◌∙◌, sym, ap, subst, fun_ext}
use mathlib.Core.Bool.{true, false, not, ◌&&◌}
use mathlib.Core.List.{List}
use mathlib.Core.Logic.{inl, inr, ⊎_elim}
use Prim.Native.Nat.{ℕ, zero, suc, ◌+◌, ◌*◌, ◌-◌, ◌/◌, ◌%◌, ◌^◌, ◌<◌, ◌≤◌}
use native.Mathlib.Nat.{div-add-mod', mod-lt, div-lt_iff_lt-mul}
use native.Mathlib.Omega.{arith}
use native.Mathlib.Decide.{dec_lt}
use lib.Arith.{digits_lt}
use lib.Dec.{eqb, leb}
use lib.ListN.{length, get_or, replicate, length-replicate, drop, length-take, length-drop}
use borrow.Rule.Slice.PartMut.{mid_of, put_mid}
use borrow.Author.Rules.{rules}
use Rattle.std.proofs.lemmas.List.{places}
use lib.Pow.{pow_pos, pow-add}
use Rattle.std.specs.Int.{abs_diff}
use borrow.Author.Tests.{lt-ltb, le-ltb, lt-leb, le-leb, leb-true, eq-eqb, ne_eqb, eqb-true, eqb-false, not-true}
use Rattle.board.specs.Boards.{max_width}
use Rattle.board.proofs.Powers.{two_le, four_two}
use Rattle.board.proofs.Tests.{and_left, and_right}
use Rattle.elimination.specs.Table.{fill_entries, LayerFilled, Apart}
use Rattle.elimination.proofs.Table.{layer_is_entries}
use Rattle.score_table.specs.Rows.{row_gain}
use Rattle.score_table.specs.ScoreTable.{absent, kind_for}
use Rattle.score_table.specs.Inner.{EntriesRead}
use Rattle.score_table.specs.Calls.{fill_fits, fill_writes}
use Rattle.score_table.specs.declared.Want.{Want}
use Rattle.score_table.proofs.WholeRows.{plain, plain_is}
use Rattle.score_table.proofs.Calls.{fits_read, fill_done}
use Rattle.column_elimination.specs.Columns.{held, start_number, entry_in, entry_by, crossed, column_mask, last_mask, after_last, front, loaded, mask_of, pattern_kept, Keeps, VectorHolds, Turned, Ended}
use Rattle.column_elimination.specs.Written.{Wrote, Spread}
use Rattle.column_elimination.proofs.Writing.{wrote_at}
use Rattle.column_elimination.proofs.Vectors.{load_holds}
use Rattle.column_elimination.proofs.Layers.{Partly, partly_more, entry_by_lem, gain_most, turned_even, turned_odd, ended_spread}
use Rattle.columns.specs.Calls.{eight_from, column_masks_fit, column_fits, Leaves}
use Rattle.columns.proofs.Calls.{column_fits_lem, masks_fit, eight_fit}
use Rattle.layers.specs.Layers.{narrowest, are_apart, at_once, Suits, LayerLent, Gained}

-- the numbers at the start ask only the rows
start_same : (limit w : ℕ) (gains f g : ℕ → ℕ) → ((c : ℕ) → c < 2 ^ w → f c ≡ g c) → start_number limit w gains f ≡ start_number limit w gains g
unfolding start_number
start_same limit w gains f g e =
    fun_ext λ c.
    elim (dec_lt c (2 ^ w)) [
      | yes l ↦ rw (lt-ltb c (2 ^ w) l, e c l)
      | no l ↦ rw (le-ltb c (2 ^ w) (omega arith))
    ]

module _ (limit : ℕ) (next : ℕ → ℕ) (w source target : ℕ) (gains : ℕ → ℕ) (apart : Apart (2 ^ w * 2 ^ w) source target) (table : List ℕ) where
  -- after the rows b below m
  abbrev pub After : ℕ → List ℕ → Type 0
  After m new = Partly (2 ^ w) target m (λ a b. entry_by limit next w gains table source a b) table new

  -- the layer that is read is as it was
  entry_same : {m : ℕ} {new : List ℕ} → After m new → (a b : ℕ) → b < 2 ^ w
      → entry_by limit next w gains new source a b ≡ entry_by limit next w gains table source a b
  unfolding entry_by
  entry_same {m} {new} S a b lb =
      ap (λ (f : ℕ → ℕ). entry_in (held next w b f (w + 2) (4 * a)))
      (start_same limit w gains (λ c. get_or new (source + b * 2 ^ w + c) 0) (λ c. get_or table (source + b * 2 ^ w + c) 0)
      λ c lc.
      let i : b * 2 ^ w + c < 2 ^ w * 2 ^ w = digits_lt lb lc in
      ⊎_elim (λ (x : source + 2 ^ w * 2 ^ w ≤ target). S.before (source + b * 2 ^ w + c) (omega arith))
      (λ (x : target + 2 ^ w * 2 ^ w ≤ source). S.after (source + b * 2 ^ w + c) (omega arith)) apart)

  -- eight rows b more
  pub eight_more : (v : ℕ) {new last : List ℕ} → 8 * v + 8 ≤ 2 ^ w → After (8 * v) new
      → Spread (2 ^ w) target (8 * v) (2 ^ w) (λ a l. entry_by limit next w gains new source a (8 * v + l)) new last → After (8 * (v + 1)) last
  eight_more v room S W =
      let e : 8 * v + 8 ≡ 8 * (v + 1) = omega arith in
      rw e at (partly_more (2 ^ w) target (8 * v) room S W (λ a l la ll. entry_same S a (8 * v + l) (omega arith)))

-- ---- a column, and the last two, as they are called
-- a vector is at least as long as it is used
vector_fits : {w n : ℕ} → w ≤ max_width → n ≡ 32768 → 32 * 2 ^ w ≤ n
vector_fits {w} l e = let m : 2 ^ w ≤ 1024 = two_le l in omega arith

-- rows come in eights
pub eights : (w n : ℕ) → 3 ≤ w → n ≡ 2 ^ w → 8 * (n / 8) ≡ 2 ^ w
eights w n l e =
    let d : w ≡ 3 + (w - 3) = omega arith in
    let f : 2 ^ w ≡ 8 * 2 ^ (w - 3) = ap (λ (x : ℕ). 2 ^ x) d ∙ pow-add 2 3 (w - 3) in
    rw e (omega arith)

-- what is asked by the number of rows
pub rows_room : {w n : ℕ} (b target long : ℕ) → w ≤ max_width → n ≡ 2 ^ w → b + 8 ≤ 2 ^ w → target + 2 ^ w * 2 ^ w ≤ long
    → (n ≤ 1024) × (b + 8 ≤ n) × (target + n * n ≤ long)
rows_room b target long narrow e eight room = rw e (two_le narrow, eight, room)

-- a number fits 16 bits
pub numbers_small : {w n limit : ℕ} {worth : List ℕ} → n ≡ 2 ^ w → Gained w limit worth → (c : ℕ) → c < n → get_or worth c 0 + limit ≤ 65535
numbers_small e G c l = omega (arith, G.small, G.most c (rw e at l))

-- the numbers loaded
pub loaded_holds : {w n : ℕ} (limit b : ℕ) (worth table : List ℕ) (first : ℕ) {old new : List ℕ} → w ≤ max_width → n ≡ 2 ^ w → length old ≡ 32768
    → Wrote 0 (32 * n) (loaded limit n worth table first) old new
    → (next : ℕ → ℕ) → VectorHolds next w b (λ l. start_number limit w (λ c. get_or worth c 0) (λ c. get_or table (first + l * 2 ^ w + c) 0)) 0 new
loaded_holds {w} limit b worth table first narrow e long W next = load_holds next limit w b worth table first (rw e at W) (vector_fits narrow long)

-- zeros from one place of a vector to another
pub zeros_wrote : (a m : ℕ) (xs ys : List ℕ) → a + m ≤ length xs → length ys ≡ length (mid_of a m xs)
    → ((k d : ℕ) → k < length (mid_of a m xs) → ◌≡◌ {A = ℕ} 0 0 → get_or ys k d ≡ 0) → Wrote a m (λ y. 0) xs (put_mid a m xs ys)
zeros_wrote a m xs ys p l f =
    let n : length (mid_of a m xs) ≡ m = omega (arith, length-take m (drop a xs), length-drop a xs) in
    let q : length ys ≡ m = l ∙ n in
    record {
      long = search (rules, places);
      inside = λ y h i.
          let z : get_or ys y 0 ≡ 0 = f y 0 (omega arith) refl in
          let e : get_or (put_mid a m xs ys) (a + y) 0 ≡ get_or ys y 0 = grind (arith, places) in
          e ∙ z;
      before = λ k h. grind (arith, places);
      after = λ k h. grind (arith, places);
    }

-- in new arrays: what rows earn, and the masks of the patterns
pub gains_are : {w : ℕ} (givens : List ℕ) (at : ℕ) {worth : List ℕ} → w ≤ max_width → Wrote 0 (2 ^ w) (row_gain w givens at) (replicate 1024 0) worth
    → (c : ℕ) → c < 2 ^ w → get_or worth c 0 ≡ row_gain w givens at c
gains_are {w} givens at narrow W = let m : 2 ^ w ≤ 1024 = two_le narrow in wrote_at W (omega (arith, length-replicate {A = ℕ} 1024 0))

pub gained : {w limit : ℕ} (givens : List ℕ) (at : ℕ) {worth : List ℕ} → w ≤ max_width → limit + w < absent → Wrote 0 (2 ^ w) (row_gain w givens at) (replicate 1024 0) worth
    → Gained w limit worth
gained {w} givens at narrow small W = record { small = small; most = λ c l. rw (gains_are givens at narrow W c l) (gain_most w givens at c) }

pub keeps_are : (next : ℕ → ℕ) {keep : List ℕ} → Wrote 0 512 (λ p. mask_of (pattern_kept next p)) (replicate 512 0) keep → Keeps next keep
keeps_are next W = record { at = wrote_at W (omega (arith, length-replicate {A = ℕ} 512 0)) }

module _ (keep : List ℕ) (w b : ℕ) (narrow : w ≤ max_width) (eight : b + 8 ≤ 2 ^ w) where
  module _ (j : ℕ) (inside : j < w) {old masks : List ℕ} (long : length old ≡ 512) (M : Leaves (column_masks_fit w b j) 512 (column_mask keep w b j) old masks) where
    masks_at : (t : ℕ) → t < 512 → get_or masks t 0 ≡ column_mask keep w b j t
    masks_at = wrote_at (M.done (masks_fit w b j narrow eight (omega arith))) (omega arith)

    pub masks_long : length masks ≡ 512
    masks_long = (M.done (masks_fit w b j narrow eight (omega arith))).long ∙ long

    module _ {s d : List ℕ} where
      pub turn_even : {d' : List ℕ} → j % 2 ≡ 0 → length d ≡ 32768 → Leaves (column_fits w j) (32 * 2 ^ w) (crossed s masks (2 ^ (w + 2 - j))) d d'
          → (next : ℕ → ℕ) → Keeps next keep → Turned next w b j s d s d'
      turn_even even e L next K = turned_even next keep K w b j inside masks masks_at even (vector_fits narrow e) (L.done (column_fits_lem w j narrow inside))

      pub turn_odd : {s' : List ℕ} → (j % 2 ≡ 0 → ⊥) → length s ≡ 32768 → Leaves (column_fits w j) (32 * 2 ^ w) (crossed d masks (2 ^ (w + 2 - j))) s s'
          → (next : ℕ → ℕ) → Keeps next keep → Turned next w b j s d s' d
      turn_odd odd e L next K = turned_odd next keep K w b j inside masks masks_at odd (vector_fits narrow e) (L.done (column_fits_lem w j narrow inside))

    pub column_long : {f : ℕ → ℕ} {v v' : List ℕ} → Leaves (column_fits w j) (32 * 2 ^ w) f v v' → length v' ≡ length v
    column_long L = (L.done (column_fits_lem w j narrow inside)).long

  module _ {old last : List ℕ} (long : length old ≡ 128) (M : Leaves (eight_from w b) 128 (last_mask keep w b) old last) where
    pub last_long : length last ≡ 128
    last_long = (M.done (eight_fit w b narrow eight)).long ∙ long

    finish_done : (target n : ℕ) {vector table new : List ℕ} → n ≡ 2 ^ w → Spread n target b n (λ a l. entry_in (after_last vector last a l)) table new
        → (next : ℕ → ℕ) → Keeps next keep → Ended next w b target vector table new
    finish_done target n {vector} e S next K =
        ended_spread next keep K w b target vector last (rw e at S) (wrote_at (M.done (eight_fit w b narrow eight)) (omega arith))

    module _ (target n : ℕ) (s d : List ℕ) {table new : List ℕ} (e : n ≡ 2 ^ w) where
      pub finish_even : w % 2 ≡ 0 → Spread n target b n (λ a l. entry_in (after_last s last a l)) table new
          → (next : ℕ → ℕ) → Keeps next keep → Ended next w b target (front w s d) table new
      finish_even even S next K = rw (eq-eqb (w % 2) 0 even) (finish_done target n e S next K)

      pub finish_odd : (w % 2 ≡ 0 → ⊥) → Spread n target b n (λ a l. entry_in (after_last d last a l)) table new
          → (next : ℕ → ℕ) → Keeps next keep → Ended next w b target (front w s d) table new
      finish_odd odd S next K = rw (ne_eqb (w % 2) 0 odd) (finish_done target n e S next K)

-- two layers apart, in rows times rows
pub apart_rows : (w source target : ℕ) → Apart (4 ^ w) source target → Apart (2 ^ w * 2 ^ w) source target
apart_rows w source target a = rw (four_two w) at a

-- the whole layer
pub layer_done : (want : Want) (next : ℕ → ℕ) (w h k source target : ℕ) (gains : ℕ → ℕ) (givens table : List ℕ) (L : LayerLent want w h k source target givens table)
    → (apart : Apart (2 ^ w * 2 ^ w) source target) {new : List ℕ} → ((c : ℕ) → c < 2 ^ w → gains c ≡ row_gain w givens ((h - k) * w) c)
    → After want.limit next w source target gains apart table (2 ^ w) new
    → new ≡ fill_entries (kind_for want next w h givens) k source target 0 (4 ^ w) table
layer_done want next w h zero source target gains givens table L apart same S = absurd (omega (arith, L.suits.above))
layer_done want next w h (suc k) source target gains givens table L apart {new} same S =
    let G = kind_for (plain want) next w h givens in
    let q = four_two w in
    let F : LayerFilled G (suc k) source target table new =
    record {
      long = S.long;
      inside = λ j l.
          let a = j / 2 ^ w in
          let b = j % 2 ^ w in
          let la : a < 2 ^ w = (div-lt_iff_lt-mul (pow_pos w)).1 l in
          let lb : b < 2 ^ w = mod-lt j (pow_pos w) in
          let d : a * 2 ^ w + b ≡ j = div-add-mod' j (2 ^ w) in
          let p : target + a * 2 ^ w + b ≡ target + j = omega arith in
          let x = S.inside a b la lb ∙ entry_by_lem (plain want) next w h givens k a b gains table source L.suits.greatest refl refl la lb same in
          rw p at x;
      before = S.before;
      after = S.after;
    } in
    rw q (layer_is_entries G (suc k) source target table new apart (omega (arith, L.writes, q)) F)
    ∙ ap (λ (u : Want). fill_entries (kind_for u next w h givens) (suc k) source target 0 (4 ^ w) table) (plain_is want L.suits.digits L.suits.stays)

-- ---- which layers are filled at once, as the code tests it
module _ (want : Want) (w k source target count : ℕ) where
  pub once_least : want.least ≡ true → false ≡ at_once want w k source target count
  unfolding at_once
  once_least e = rw e

  module _ (e : want.least ≡ false) where
    pub once_halves : want.halves ≡ true → false ≡ at_once want w k source target count
    unfolding at_once
    once_halves f = rw (e, f)

    module _ (f : want.halves ≡ false) where
      pub once_target : want.predecessor ≡ true → false ≡ at_once want w k source target count
      unfolding at_once
      once_target t = rw (e, f, t)

      module _ (t : want.predecessor ≡ false) where
        pub once_narrow : w < narrowest → false ≡ at_once want w k source target count
        unfolding at_once
        once_narrow l = rw (e, f, t, lt-leb narrowest w l)

        module _ (l : narrowest ≤ w) where
          pub once_last : k ≡ 0 → false ≡ at_once want w k source target count
          unfolding at_once
          once_last z = rw (e, f, t, le-leb narrowest w l, eq-eqb k 0 z)

          module _ (z : k ≡ 0 → ⊥) where
            pub once_part : (count ≡ 4 ^ w → ⊥) → false ≡ at_once want w k source target count
            unfolding at_once
            once_part n = rw (e, f, t, le-leb narrowest w l, ne_eqb k 0 z, ne_eqb count (4 ^ w) n)

            pub once_apart : count ≡ 4 ^ w → are_apart source target (4 ^ w) ≡ at_once want w k source target count
            unfolding at_once
            once_apart c = rw (e, f, t, le-leb narrowest w l, ne_eqb k 0 z, eq-eqb count (4 ^ w) c)

-- the distance of the two starts, whichever comes first
pub apart_diff : (source target q : ℕ) → leb q (abs_diff source target) ≡ are_apart source target q
apart_diff source target q =
    elim (dec_lt source target) [
      | yes l ↦ let e : abs_diff source target ≡ target - source = omega arith in rw (e, lt-ltb source target l)
      | no l ↦
          let m : target ≤ source = omega arith in
          let e : abs_diff source target ≡ source - target = omega arith in
          rw (e, le-ltb source target m)
    ]

apart_are : (source target q : ℕ) → are_apart source target q ≡ true → Apart q source target
apart_are source target q e =
    elim (dec_lt source target) [
      | yes l ↦ let f : leb q (target - source) ≡ true = rw (lt-ltb source target l) at e in inl (omega (arith, leb-true q (target - source) f))
      | no l ↦
          let m : target ≤ source = omega arith in
          let f : leb q (source - target) ≡ true = rw (le-ltb source target m) at e in
          inr (omega (arith, leb-true q (source - target) f))
    ]

pub once_suits : (want : Want) (w k source target count : ℕ) → at_once want w k source target count ≡ true → Suits want w k source target count
unfolding at_once
once_suits want w k source target count e =
    let a = not want.least in
    let f = not want.halves in
    let t = not want.predecessor in
    let b = leb narrowest w in
    let c = not (eqb k 0) in
    let d = eqb count (4 ^ w) in
    let x = are_apart source target (4 ^ w) in
    let p5 = and_left (a && f && t && b && c && d) x e in
    let p4 = and_left (a && f && t && b && c) d p5 in
    let p3 = and_left (a && f && t && b) c p4 in
    let p2 = and_left (a && f && t) b p3 in
    let p1 = and_left (a && f) t p2 in record {
      greatest = not-true want.least (and_left a f p1);
      digits = not-true want.halves (and_right a f p1);
      stays = not-true want.predecessor (and_right (a && f) t p2);
      wide = leb-true narrowest w (and_right (a && f && t) b p3);
      above = some k (eqb-false k 0 (not-true (eqb k 0) (and_right (a && f && t && b) c p4)));
      whole = eqb-true count (4 ^ w) (and_right (a && f && t && b && c) d p5);
      apart = apart_are source target (4 ^ w) (and_right (a && f && t && b && c && d) x e);
    }
  where
    some : (n : ℕ) → (n ≡ 0 → ⊥) → 0 < n
    some n z = omega (arith, z)

-- ---- a call
-- entries that are there and suit are a layer that can be filled at once
module _ (want : Want) (w h k source target from count : ℕ) (givens table : List ℕ) (fits : fill_fits want w h k source target from count givens (length table) ≡ true)
    (S : Suits want w k source target count) where
  -- what they are lent, by the digits of a row's number
  read : EntriesRead (plain want) w h k source from count givens table × (want.limit + w < absent) × (target + 4 ^ w ≤ length table)
  read =
      fits_read (plain want) w h givens k source target from count table
      (subst (λ (u : Want). fill_fits u w h k source target from count givens (length table) ≡ true) (sym (plain_is want S.digits S.stays)) fits)

  pub layer_lent : LayerLent want w h k source target givens table
  layer_lent = record {
    suits = record { greatest = S.greatest; digits = S.digits; stays = S.stays; wide = S.wide; above = S.above; whole = refl; apart = S.apart };
    memory = read.0.memory;
    after = read.0.after;
    small = read.1;
    reads = read.0.layer (λ z. omega (arith, S.above));
    writes = read.2;
  }

  pub layer_written : (next : ℕ → ℕ) {new : List ℕ} → new ≡ fill_entries (kind_for want next w h givens) k source target 0 (4 ^ w) table
      → new ≡ fill_writes want next w h k source target from count givens table
  layer_written next e =
      let f : from ≡ 0 = omega (arith, read.0.inside, S.whole) in
      let c : count ≡ 4 ^ w = S.whole in
      let G = kind_for want next w h givens in
      let same : fill_entries G k source target 0 (4 ^ w) table ≡ fill_entries G k source target from count table = rw (f, c) in
      e ∙ same ∙ fill_done want w h givens next k source target from count table fits
