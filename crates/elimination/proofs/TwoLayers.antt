-- The plan over two layers is orderly and follows its schedule, so a job with it comes to its end.
-- Assumes nothing.
use mathlib.Core.Path.{◌≡◌, refl, sym, ◌∙◌, ap, ap₂}
use mathlib.Core.Bool.{false}
use mathlib.Core.Logic.{⊎_elim}
use Prim.Native.Nat.{ℕ, zero, suc, ◌+◌, ◌-◌, ◌*◌, ◌/◌, ◌%◌, ◌≤◌, ◌<◌}
use native.Mathlib.Nat.{zero-add, mod-lt, mul-le-mul, mul-le-mul_right, div-lt_iff_lt-mul, div-add-mod', eq-or-lt_of_le, add-sub_cancel_left}
use native.Mathlib.Omega.{arith}
use borrow.Author.Tests.{lt-ltb, le-ltb, eq-eqb, ne_eqb}
use lib.Arith.{digits_lt, digits_div, digits_mod}
use Rattle.elimination.specs.Kind.{Kind}
use Rattle.elimination.specs.Table.{layer_size}
use Rattle.elimination.specs.Task.{fill, row, is_fill}
use Rattle.elimination.specs.Plan.{Scheduled}
use Rattle.elimination.specs.Places.{writes, Stands, Orderly}
use Rattle.elimination.specs.TwoLayers.{half, fill_in, plan_from, plan, start_of, schedule, Lengths, two_layers, TwoLayersComplete}
use Rattle.std.proofs.lemmas.Bool.{cases_lt}
use Rattle.elimination.proofs.Task.{row_not_fill}
use Rattle.elimination.proofs.Places.{orderly_sound}
use Rattle.elimination.proofs.Completion.{job_completes}

-- one of two neighbouring numbers is even
record Pairs (h : ℕ) : Type 0 where
  half : ℕ
  twice : h * (h + 1) ≡ half + half

pairs : (h : ℕ) → Pairs h
pairs zero = record { half = 0; twice = omega arith }
pairs (suc n) = let P = pairs n in record { half = P.half + suc n; twice = omega (arith, P.twice) }

-- ---- the plan, filling by filling
module _ (h q : ℕ) where
  pub start_more : (r : ℕ) → start_of h q (suc r) ≡ suc (start_of h q r + (h - r) * q)
  unfolding start_of
  start_more r = refl

  pub start_first : start_of h q 0 ≡ 0
  unfolding start_of
  start_first = refl

  from_fill : (n m : ℕ) → m < suc n * q → plan_from h q (suc n) m ≡ fill_in h q m
  unfolding plan_from
  from_fill n m l = rw (lt-ltb m (suc n * q) l)

  from_row : (n : ℕ) → plan_from h q (suc n) (suc n * q) ≡ row (h - suc n) (half q (h - n))
  unfolding plan_from
  from_row n = rw (le-ltb (suc n * q) (suc n * q) (omega arith), eq-eqb (suc n * q) (suc n * q) refl)

  from_next : (n m : ℕ) → plan_from h q (suc n) (suc (suc n * q) + m) ≡ plan_from h q n m
  unfolding plan_from
  from_next n m =
      rw (
        le-ltb (suc (suc n * q) + m) (suc n * q) (omega arith),
        ne_eqb (suc (suc n * q) + m) (suc n * q) (λ e. omega arith),
        add-sub_cancel_left (suc (suc n * q)) m,
      )

  -- from row r on
  plan_from_lem : (r : ℕ) → r ≤ h → (m : ℕ) → plan h q (start_of h q r + m) ≡ plan_from h q (h - r) m
  plan_from_lem zero l m = ap (plan_from h q h) (ap (λ (x : ℕ). x + m) start_first ∙ zero-add m) ∙ ap (λ (n : ℕ). plan_from h q n m) (omega arith)
  plan_from_lem (suc r) l m =
      let n = h - suc r in
      let e : h - r ≡ suc n = omega arith in
      let s : start_of h q (suc r) + m ≡ start_of h q r + (suc (suc n * q) + m) = omega (arith, start_more r, ap (λ (x : ℕ). x * q) e) in
      ap (plan h q) s ∙ plan_from_lem r (omega arith) (suc (suc n * q) + m) ∙ ap (λ (x : ℕ). plan_from h q x (suc (suc n * q) + m)) e ∙ from_next n m

  pub plan_fill : (r m : ℕ) → r < h → m < (h - r) * q → plan h q (start_of h q r + m) ≡ fill_in h q m
  plan_fill r m l b =
      let e : h - r ≡ suc (h - suc r) = omega arith in
      plan_from_lem r (omega arith) m ∙ ap (λ (x : ℕ). plan_from h q x m) e ∙ from_fill (h - suc r) m (rw e at b)

  pub plan_row : (r : ℕ) → r < h → plan h q (start_of h q r + (h - r) * q) ≡ row r (half q (r + 1))
  plan_row r l =
      let e : h - r ≡ suc (h - suc r) = omega arith in
      let d : h - suc (h - suc r) ≡ r = omega arith in
      let d' : h - (h - suc r) ≡ r + 1 = omega arith in
      plan_from_lem r (omega arith) ((h - r) * q) ∙ ap (λ (x : ℕ). plan_from h q x (x * q)) e ∙ from_row (h - suc r) ∙ ap₂ (λ (x y : ℕ). row x (half q y)) d d'

  -- and past the last row
  pub plan_past : (u : ℕ) → start_of h q h ≤ u → is_fill (plan h q u) ≡ false
  unfolding plan_from
  plan_past u l =
      let e : h - h ≡ 0 = omega arith in
      let d : u ≡ start_of h q h + (u - start_of h q h) = omega arith in
      ap is_fill (ap (plan h q) d ∙ plan_from_lem h (omega arith) (u - start_of h q h) ∙ ap (λ (n : ℕ). plan_from h q n (u - start_of h q h)) e)

  -- every unit of the job is one of these
  pub record Located (u : ℕ) : Type 0 where
    pub before : ℕ
    pub step : ℕ
    pub one : before < h
    pub is : u ≡ start_of h q before + step
    pub most : step ≤ (h - before) * q

  locate : (r : ℕ) → r ≤ h → (u : ℕ) → u < start_of h q r → Located u
  locate zero l u b = absurd (omega (arith, start_first))
  locate (suc r) l u b =
      ⊎_elim (λ (c : u < start_of h q r). locate r (omega arith) u c)
      (λ (c : start_of h q r ≤ u). record { before = r; step = u - start_of h q r; one = l; is = omega arith; most = omega (arith, start_more r) })
      (cases_lt u (start_of h q r))

  -- ---- lengths
  start_length : (r : ℕ) → r ≤ h → 2 * start_of h q r + (h - r) * (h - r + 1) * q ≡ h * (h + 1) * q + 2 * r
  start_length zero l = let e : h - 0 ≡ h = omega arith in rw (e, start_first) (omega arith)
  start_length (suc r) l =
      let n = h - suc r in
      let e : h - r ≡ suc n = omega arith in
      let i = rw e at (start_length r (omega arith)) in
      let s = rw e at (start_more r) in
      let f : suc n * (suc n + 1) * q ≡ n * (n + 1) * q + 2 * (suc n * q) = omega arith in
      omega (arith, i, s, f)

  pub two_lengths : Lengths h q
  two_lengths =
      let e : h - h ≡ 0 = omega arith in
      let s = rw e at (start_length h (omega arith)) in
      let d : h - 0 ≡ h = omega arith in
      record { board = go (pairs h) s; none = rw d (omega arith) }
    where
      go : Pairs h → 2 * start_of h q h + 0 * (0 + 1) * q ≡ h * (h + 1) * q + 2 * h → start_of h q h ≡ h * (h + 1) / 2 * q + h
      go P s =
          let n : h * (h + 1) / 2 ≡ P.half = omega (arith, P.twice) in
          rw n (let m : h * (h + 1) * q ≡ (P.half + P.half) * q = ap (λ (x : ℕ). x * q) P.twice in omega (arith, m))

-- ---- what a unit does
pub data Does (h q u : ℕ) : Type 0 where
  fills : (r m : ℕ) → r < h → m < (h - r) * q → u ≡ start_of h q r + m → Does h q u
  chooses : (r : ℕ) → r < h → u ≡ start_of h q r + (h - r) * q → Does h q u

pub does : (h q u : ℕ) → u < start_of h q h → Does h q u
does h q u l =
    let L = locate h q h (omega arith) u l in
    ⊎_elim (λ (e : L.step ≡ (h - L.before) * q). chooses L.before L.one (L.is ∙ ap (λ (x : ℕ). start_of h q L.before + x) e))
    (λ (b : L.step < (h - L.before) * q). fills L.before L.step L.one b L.is) (eq-or-lt_of_le L.most)

-- the halves of a layer and of the next differ
halves : (q i a b : ℕ) → a < q → b < q → half q (i + 1) + a ≡ half q i + b → ⊥
halves q i a b la lb e =
    let x : (i + 1) % 2 ≡ i % 2 = sym (digits_div ((i + 1) % 2) la) ∙ ap (λ (n : ℕ). n / q) e ∙ digits_div (i % 2) lb in
    omega arith

same_half : (q x a b : ℕ) → x + a ≡ x + b → a ≡ b
same_half q x a b e = omega arith

module _ (h q : ℕ) (some : 0 < q) where
  -- a layer stands while the next is filled
  stands : (r k i m : ℕ) → r < h → k < h - r → i < q → suc k * q ≤ m → m ≤ suc (suc k) * q → m ≤ (h - r) * q
      → Stands (plan h q) (start_of h q r + m) (half q (h - k) + i) k i
  stands r k i m lr lk li from to most = record {
    unit = start_of h q r + (k * q + i);
    source = half q (h - k + 1);
    target = half q (h - k);
    before = omega arith;
    fills = plan_fill h q r (k * q + i) lr (omega arith) ∙ rw (digits_div k li, digits_mod k li);
    place = refl;
    since = since;
  }
    where
      apart : (v : ℕ) → k * q + i < v → v < m → half q (h - k) + i ≡ half q (h - v / q) + v % q → ⊥
      apart v a b e =
          let parts = div-add-mod' v q in
          let over = mod-lt v some in
          let high : v / q < suc (suc k) = (div-lt_iff_lt-mul some).1 (omega arith) in
          ⊎_elim (λ (c : v / q < k). let d : suc (v / q) * q ≤ k * q = mul-le-mul_right q c in omega (arith, parts, over))
          (λ (c : k ≤ v / q).
          ⊎_elim
          (λ (d : k ≡ v / q).
          let f : half q (h - v / q) ≡ half q (h - k) = ap (λ (x : ℕ). half q (h - x)) (sym d) in
          let g : i ≡ v % q = same_half q (half q (h - k)) i (v % q) (e ∙ ap (λ (x : ℕ). x + v % q) f) in
          let n : v / q * q ≡ k * q = ap (λ (x : ℕ). x * q) (sym d) in
          omega (arith, parts))
          (λ (d : k < v / q).
          let f : h - k ≡ h - v / q + 1 = omega arith in
          halves q (h - v / q) i (v % q) li over (ap (λ (x : ℕ). half q x + i) (sym f) ∙ e))
          (eq-or-lt_of_le c))
          (cases_lt (v / q) k)

      since : (v : ℕ) → start_of h q r + (k * q + i) < v → v < start_of h q r + m → writes (plan h q v) (half q (h - k) + i) ≡ false
      since v a b =
          let d = v - start_of h q r in
          let e : v ≡ start_of h q r + d = omega arith in
          let p : plan h q v ≡ fill_in h q d = ap (plan h q) e ∙ plan_fill h q r d lr (omega arith) in
          rw p (ne_eqb (half q (h - k) + i) (half q (h - d / q) + d % q) (apart d (omega arith) (omega arith)))

  -- the plan is orderly
  module _ (u : ℕ) (l : u < start_of h q h) where
    inside : (k source target j : ℕ) → plan h q u ≡ fill k source target j → target + j < 2 * q
    inside k source target j e = go (does h q u l)
      where
        go : Does h q u → target + j < 2 * q
        go (fills r m lr lm is) =
            let same : fill_in h q m ≡ fill k source target j = sym (plan_fill h q r m lr lm) ∙ ap (plan h q) (sym is) ∙ e in
            let st : half q (h - m / q) ≡ target = cc in
            let sj : m % q ≡ j = cc in
            let d : half q (h - m / q) + m % q < 2 * q = digits_lt (mod-lt (h - m / q) (omega arith)) (mod-lt m some) in
            omega arith
        go (chooses r lr is) = row_not_fill (sym (plan_row h q r lr) ∙ ap (plan h q) (sym is) ∙ e)

    reads : (k source target j : ℕ) → plan h q u ≡ fill (suc k) source target j → (i : ℕ) → i < q → Stands (plan h q) u (source + i) k i
    reads k source target j e i li = go (does h q u l)
      where
        go : Does h q u → Stands (plan h q) u (source + i) k i
        go (fills r m lr lm is) =
            let same : fill_in h q m ≡ fill (suc k) source target j = sym (plan_fill h q r m lr lm) ∙ ap (plan h q) (sym is) ∙ e in
            let sk : m / q ≡ suc k = cc in
            let ss : half q (h - m / q + 1) ≡ source = cc in
            let parts = div-add-mod' m q in
            let n : m / q * q ≡ suc k * q = ap (λ (x : ℕ). x * q) sk in
            let under : m / q < h - r = (div-lt_iff_lt-mul some).1 lm in
            let f : h - m / q + 1 ≡ h - k = omega arith in
            let source_is : half q (h - k) ≡ source = ap (half q) (sym f) ∙ ss in
            let over = mod-lt m some in
            rw (is, ← source_is) (stands r k i m lr (omega arith) li (omega arith) (omega arith) (omega arith))
        go (chooses r lr is) = row_not_fill (sym (plan_row h q r lr) ∙ ap (plan h q) (sym is) ∙ e)

    picks : (r source : ℕ) → plan h q u ≡ row r source → (i : ℕ) → i < q → Stands (plan h q) u (source + i) (h - suc r) i
    picks r source e i li = go (does h q u l)
      where
        go : Does h q u → Stands (plan h q) u (source + i) (h - suc r) i
        go (fills r' m lr lm is) = row_not_fill (sym e ∙ ap (plan h q) is ∙ plan_fill h q r' m lr lm)
        go (chooses r' lr is) =
            let same : row r' (half q (r' + 1)) ≡ row r source = sym (plan_row h q r' lr) ∙ ap (plan h q) (sym is) ∙ e in
            let sr : r' ≡ r = cc in
            let ss : half q (r' + 1) ≡ source = cc in
            let f : h - (h - suc r) ≡ r' + 1 = omega arith in
            let source_is : half q (h - (h - suc r)) ≡ source = ap (half q) f ∙ ss in
            let n : (h - r') * q ≡ suc (h - suc r) * q = ap (λ (x : ℕ). x * q) (omega arith) in
            rw (is, ← source_is) (stands r' (h - suc r) i ((h - r') * q) lr (omega arith) li (omega arith) (omega arith) (omega arith))

  -- and follows its schedule
  pub scheduled : Scheduled h (plan h q) (schedule h q)
  scheduled = record {
    first = start_first h q;
    next = start_more h q;
    fills = λ r m l b. ap is_fill (plan_fill h q r m l b);
    chooses = plan_row h q;
  }

pub orderly : (codes h : ℕ) → 0 < codes * codes → Orderly codes h (2 * (codes * codes)) (start_of h (codes * codes) h) (plan h (codes * codes))
orderly codes h some = record {
  inside = λ u k s t j l e. inside h (codes * codes) some u l k s t j e;
  reads = λ u k s t j l e. reads h (codes * codes) some u l k s t j e;
  chooses = λ u r s l e. picks h (codes * codes) some u l r s e;
}

-- THE THEOREM of this plan
pub two_layers_complete : {X B : Type 0} (G : Kind X) (h : ℕ) (write : ℕ → ℕ → B → B) → TwoLayersComplete G h write
two_layers_complete G h write L high wide t long β =
    let q = layer_size G in
    let some : 0 < q = mul-le-mul wide wide in
    let P = orderly_sound G h (2 * q) (start_of h q h) (plan h q) (schedule h q) (orderly G.codes h some) (scheduled h q some) (omega arith) wide in
    job_completes (two_layers G h write) (schedule h q) L high wide P.0 t (P.1 t long) β
