-- The plans of the shapes go in rounds; and what a unit does, by its round.
-- Assumes nothing.
use mathlib.Core.Path.{◌≡◌, refl, sym, ◌∙◌, ap, ap₂}
use mathlib.Core.Bool.{false}
use mathlib.Core.Logic.{⊎_elim}
use Prim.Native.Nat.{ℕ, zero, suc, ◌+◌, ◌-◌, ◌*◌, ◌/◌, ◌%◌, ◌≤◌, ◌<◌}
use native.Mathlib.Nat.{zero-add, add-zero, mul-le-mul, mul-le-mul_right, mod-lt, zero-mod, mul-mod_left, div-add-mod', div-lt_iff_lt-mul, eq-or-lt_of_le}
use native.Mathlib.Omega.{arith}
use borrow.Author.Tests.{lt-ltb, le-ltb}
use lib.Arith.{digits_div, digits_mod}
use lib.Dec.{ltb}
use Rattle.elimination.specs.Task.{fill, row, is_fill}
use Rattle.elimination.specs.Plan.{Schedule}
use Rattle.elimination.specs.FillThenChoose as Whole
use Rattle.elimination.specs.TwoLayers as Two
use Rattle.elimination.specs.Shape.{Shape, ShapeLaws, whole, two_layers}
use Rattle.elimination.specs.Rounds.{InRound, round_fill, Rounds}
use Rattle.std.proofs.lemmas.Bool.{cases_lt}
use Rattle.elimination.proofs.Task.{row_not_fill}
use Rattle.elimination.proofs.Places.{row_before_lem}
use Rattle.elimination.proofs.FillThenChoose as Wholes
use Rattle.elimination.proofs.TwoLayers as Twos

-- ---- what a unit does, by its round
module _ {q : ℕ} {S : Shape} {C : Schedule} (R : Rounds q S C) where
  pub data Does (u r m : ℕ) : Type 0 where
    fills : r < S.rows → m < C.work r → S.plan u ≡ round_fill S.rows q C.source m → Does u r m
    chooses : r < S.rows → m ≡ C.work r → S.plan u ≡ row r (C.source r) → Does u r m
    rests : r ≡ S.rows → u ≡ S.board_length + m → Does u r m

  pub does : {u r m : ℕ} → InRound S.rows C u r m → Does u r m
  does {u} {r} {m} I =
      ⊎_elim (λ (e : r ≡ S.rows). rests e (I.is ∙ ap (λ (x : ℕ). C.start x + m) e ∙ ap (λ (x : ℕ). x + m) R.board))
      (λ (l : r < S.rows).
      ⊎_elim (λ (e : m ≡ C.work r). chooses l e (ap S.plan (I.is ∙ ap (λ (x : ℕ). C.start r + x) e) ∙ R.scheduled.chooses r l))
      (λ (b : m < C.work r). fills l b (ap S.plan I.is ∙ R.fills r m l b)) (eq-or-lt_of_le (I.within l)))
      (eq-or-lt_of_le I.rows)

  -- units are left in every round, and none after the last
  pub until : {u r m : ℕ} → InRound S.rows C u r m → r < S.rows → u < S.board_length
  until {u} {r} {m} I l = omega (arith, I.is, I.within l, row_before_lem R.scheduled r l, R.board)

  -- it fills exactly where entries of its round are left
  pub fills_until : {u r m : ℕ} → InRound S.rows C u r m → r < S.rows → is_fill (S.plan u) ≡ ltb m (C.work r)
  fills_until {u} {r} {m} I l = go (does I)
    where
      go : Does u r m → is_fill (S.plan u) ≡ ltb m (C.work r)
      go (fills a b p) = ap is_fill p ∙ sym (lt-ltb m (C.work r) b)
      go (chooses a e p) = ap is_fill p ∙ sym (le-ltb m (C.work r) (omega arith))
      go (rests e p) = absurd (omega arith)

  -- and past the last round there is none
  pub round_past : {u r m : ℕ} → InRound S.rows C u r m → S.rows ≤ r → is_fill (S.plan u) ≡ false
  round_past {u} {r} {m} I l = go (does I)
    where
      go : Does u r m → is_fill (S.plan u) ≡ false
      go (fills a b p) = absurd (omega arith)
      go (chooses a e p) = absurd (omega arith)
      go (rests e p) = R.past u (omega arith)

  -- every unit is in a round
  pub record Located (u : ℕ) : Type 0 where
    pub round : ℕ
    pub place : ℕ
    pub before : round < S.rows
    pub at : InRound S.rows C u round place

  locate : (r : ℕ) → r ≤ S.rows → (u : ℕ) → u < C.start r → Located u
  locate zero l u b = absurd (omega (arith, R.scheduled.first))
  locate (suc r) l u b =
      ⊎_elim (λ (c : u < C.start r). locate r (omega arith) u c)
      (λ (c : C.start r ≤ u). record {
        round = r;
        place = u - C.start r;
        before = l;
        at = record { rows = omega arith; is = omega arith; within = λ z. omega (arith, R.scheduled.next r) };
      })
      (cases_lt u (C.start r))

  pub located : {u : ℕ} → u < S.board_length → Located u
  located {u} l = locate S.rows (omega arith) u (omega (arith, R.board))

  -- ---- what a task says of its layers
  pub record FillAt (k source target j : ℕ) : Type 0 where
    pub after : k < S.rows
    pub inside : j < q
    pub writes : target + q ≤ S.entries
    pub reads : (k ≡ 0 → ⊥) → source + q ≤ S.entries

  pub fill_at_lem : {u k source target j : ℕ} → 0 < q → u < S.board_length → S.plan u ≡ fill k source target j → FillAt k source target j
  fill_at_lem {u} {k} {source} {target} {j} some l p = go (does L.at)
    where
      L : Located u
      L = located l

      m : ℕ
      m = L.place

      go : Does u L.round L.place → FillAt k source target j
      go (fills a b is) =
          let e : round_fill S.rows q C.source m ≡ fill k source target j = sym is ∙ p in
          let ek : m / q ≡ k = cc in
          let es : C.source (S.rows - m / q) ≡ source = cc in
          let et : C.source (S.rows - 1 - m / q) ≡ target = cc in
          let ej : m % q ≡ j = cc in
          let few : m / q < S.rows = (div-lt_iff_lt-mul some).1 (omega (arith, b, R.most L.round)) in record {
            after = rw ek at few;
            inside = rw ej at (mod-lt m some);
            writes = rw et at (R.inside (S.rows - 1 - m / q) (omega arith));
            reads = λ n. rw es at (R.inside (S.rows - m / q) (omega (arith, ek, few, n)));
          }
      go (chooses a b is) = row_not_fill (sym is ∙ p)
      go (rests a b) = absurd (omega (arith, L.before))

  -- what a layer has left is filled by the next units
  pub fill_run : {u k source target j : ℕ} → 0 < q → u < S.board_length → S.plan u ≡ fill k source target j → (i : ℕ) → j + i < q
      → (S.plan (u + i) ≡ fill k source target (j + i)) × (u + i < S.board_length)
  fill_run {u} {k} {source} {target} {j} some l p i b = go (does L.at)
    where
      L : Located u
      L = located l

      r : ℕ
      r = L.round

      m : ℕ
      m = L.place

      go : Does u L.round L.place → (S.plan (u + i) ≡ fill k source target (j + i)) × (u + i < S.board_length)
      go (fills a c is) =
          let e : round_fill S.rows q C.source m ≡ fill k source target j = sym is ∙ p in
          let ek : m / q ≡ k = cc in
          let es : C.source (S.rows - m / q) ≡ source = cc in
          let et : C.source (S.rows - 1 - m / q) ≡ target = cc in
          let ej : m % q ≡ j = cc in
          let inside : m % q + i < q = rw ej b in
          let n : C.work r / q * q ≡ C.work r = omega (arith, div-add-mod' (C.work r) q, R.layers r) in
          let few : m / q < C.work r / q = (div-lt_iff_lt-mul some).1 (omega (arith, c, n)) in
          let whole : suc (m / q) * q ≤ C.work r / q * q = mul-le-mul_right q few in
          let at : m + i ≡ m / q * q + (m % q + i) = omega (arith, div-add-mod' m q) in
          let within : m + i < C.work r = omega (arith, at, inside, whole, n) in
          let d : (m + i) / q ≡ m / q = ap (λ (x : ℕ). x / q) at ∙ digits_div (m / q) inside in
          let f : (m + i) % q ≡ m % q + i = ap (λ (x : ℕ). x % q) at ∙ digits_mod (m / q) inside in
          let I : InRound S.rows C (u + i) r (m + i) = record { rows = L.at.rows; is = omega (arith, L.at.is); within = λ z. omega (arith, within) } in (
            ap S.plan I.is ∙ R.fills r (m + i) a within
                ∙ ap₂ (λ (x y : ℕ). fill x (C.source (S.rows - x)) (C.source (S.rows - 1 - x)) y) d f
                ∙ cc,
            until I a,
          )
      go (chooses a c is) = row_not_fill (sym is ∙ p)
      go (rests a c) = absurd (omega (arith, L.before))

  pub record RowAt (r source : ℕ) : Type 0 where
    pub one : r < S.rows
    pub layer : source + q ≤ S.entries

  pub row_at : {u r source : ℕ} → u < S.board_length → S.plan u ≡ row r source → RowAt r source
  row_at {u} {r} {source} l p = go (does L.at)
    where
      L : Located u
      L = located l

      go : Does u L.round L.place → RowAt r source
      go (fills a b is) = row_not_fill (sym p ∙ is)
      go (chooses a b is) =
          let e : row L.round (C.source L.round) ≡ row r source = sym is ∙ p in
          let er : L.round ≡ r = cc in
          let es : C.source L.round ≡ source = cc in
          record { one = rw er at a; layer = rw es at (R.inside L.round a) }
      go (rests a b) = absurd (omega (arith, L.before))

  -- ---- the rows chosen are the round
  module _ (L : ShapeLaws S) where
    chosen_at : (r m : ℕ) → r < S.rows → m ≤ C.work r → S.chosen (C.start r) ≡ r → S.chosen (C.start r + m) ≡ r
    chosen_at r zero l b s = ap S.chosen (add-zero (C.start r)) ∙ s
    chosen_at r (suc m) l b s =
        let t : C.start r + m < S.board_length = omega (arith, row_before_lem R.scheduled r l, R.board) in
        ap S.chosen (omega arith)
        ∙ (L.fills (C.start r + m) _ _ _ _ t (R.fills r m l b)).0
        ∙ chosen_at r m l (omega arith) s

    chosen_start : (r : ℕ) → r ≤ S.rows → S.chosen (C.start r) ≡ r
    chosen_start zero l = ap S.chosen R.scheduled.first ∙ L.none_chosen
    chosen_start (suc r) l =
        ap S.chosen (R.scheduled.next r)
        ∙ (L.chooses (C.start r + C.work r) r (C.source r) (omega (arith, row_before_lem R.scheduled r l, R.board)) (R.scheduled.chooses r l)).1

    pub chosen_round : {u r m : ℕ} → InRound S.rows C u r m → u ≤ S.board_length → S.chosen u ≡ r
    chosen_round {u} {r} {m} I l = go (does I)
      where
        go : Does u r m → S.chosen u ≡ r
        go (fills a b p) = ap S.chosen I.is ∙ chosen_at r m a (omega arith) (chosen_start r I.rows)
        go (chooses a e p) = ap S.chosen I.is ∙ chosen_at r m a (omega arith) (chosen_start r I.rows)
        go (rests e p) = ap S.chosen (let z : u ≡ C.start S.rows = omega (arith, R.board) in z ∙ ap C.start (sym e)) ∙ chosen_start r I.rows

    pub chosen_most : {u : ℕ} → u ≤ S.board_length → S.chosen u ≤ S.rows
    chosen_most {u} l =
        ⊎_elim (λ (e : u ≡ S.board_length). omega (arith, ap S.chosen (e ∙ sym R.board), chosen_start S.rows (omega arith)))
        (λ (b : u < S.board_length). let L = located b in omega (arith, chosen_round L.at l, L.before)) (eq-or-lt_of_le l)

-- ---- the shapes
module _ (codes h most : ℕ) where
  abbrev q : ℕ
  q = codes * codes

  pub whole_rounds : Rounds q (whole codes h most) (Whole.schedule h q)
  whole_rounds = record {
    scheduled = Wholes.scheduled h q;
    fills = fills;
    layers = layers_of_lem;
    most = most_of;
    inside = λ r l. let a : suc r * q ≤ h * q = mul-le-mul_right q l in omega arith;
    past = λ u l. ap is_fill (Wholes.plan_late h q u (omega arith));
    board = long h;
    none = omega arith;
  }
    where
      fills : (r m : ℕ) → r < h → m < Whole.fills_before h q r → Whole.plan h q (Whole.start_of h q r + m) ≡ round_fill h q (λ i. i * q) m
      fills zero m l b = ap (Whole.plan h q) (zero-add m) ∙ Wholes.plan_fill h q m b
      fills (suc r) m l b = absurd (omega arith)

      layers_of_lem : (r : ℕ) → Whole.fills_before h q r % q ≡ 0
      layers_of_lem zero = mul-mod_left h q
      layers_of_lem (suc r) = zero-mod q

      most_of : (r : ℕ) → Whole.fills_before h q r ≤ h * q
      most_of zero = omega arith
      most_of (suc r) = omega arith

      long : (k : ℕ) → Whole.start_of k q k ≡ k * q + k
      long zero = omega arith
      long (suc k) = refl

  pub two_rounds : 0 < codes → Rounds q (two_layers codes h most) (Two.schedule h q)
  two_rounds wide = record {
    scheduled = Twos.scheduled h q some;
    fills = fills;
    layers = λ r. mul-mod_left (h - r) q;
    most = λ r. mul-le-mul_right q (omega arith);
    inside = λ r l. let a : suc ((r + 1) % 2) * q ≤ 2 * q = mul-le-mul_right q (mod-lt (r + 1) (omega arith)) in omega arith;
    past = λ u l. Twos.plan_past h q u l;
    board = refl;
    none = let e : h - 0 ≡ h = omega arith in rw e (omega arith);
  }
    where
      some : 0 < q
      some = mul-le-mul wide wide

      fills : (r m : ℕ) → r < h → m < (h - r) * q → Two.plan h q (Two.start_of h q r + m) ≡ round_fill h q (λ i. Two.half q (i + 1)) m
      fills r m l b =
          let few : m / q < h - r = (div-lt_iff_lt-mul some).1 b in
          let e : h - m / q ≡ h - 1 - m / q + 1 = omega arith in
          Twos.plan_fill h q r m l b ∙ ap (λ (x : ℕ). fill (m / q) (Two.half q (h - m / q + 1)) (Two.half q x) (m % q)) e
