-- The plan that fills the whole table and then chooses the rows is orderly and follows its schedule, so a job with it comes to its end.
-- Assumes nothing.
use mathlib.Core.Path.{◌≡◌, refl, sym, ◌∙◌, ap, ap₂, subst}
use mathlib.Core.Bool.{true, false}
use mathlib.Core.Logic.{⊎_elim}
use Prim.Native.Nat.{ℕ, zero, suc, ◌+◌, ◌-◌, ◌*◌, ◌/◌, ◌%◌, ◌≤◌, ◌<◌}
use native.Mathlib.Nat.{add-zero, zero-add, not-suc-le-zero, mul-zero, mul-le-mul, mul-le-mul_right, add-sub_cancel_left, mod-lt, div-add-mod', div-lt_iff_lt-mul}
use native.Mathlib.Omega.{arith}
use borrow.Author.Tests.{lt-ltb, le-ltb, ne_eqb}
use lib.Arith.{digits_lt, digits_div, digits_mod}
use Rattle.elimination.specs.Kind.{Kind}
use Rattle.elimination.specs.Table.{layer_size}
use Rattle.elimination.specs.Task.{Task, fill, row, is_fill}
use Rattle.elimination.specs.Plan.{Scheduled}
use Rattle.elimination.specs.Places.{writes, Stands, Orderly}
use Rattle.elimination.specs.FillThenChoose.{fill_at, place, choose_at, plan, start_of, fills_before, schedule, Lengths, fill_then_choose, FillThenChooseCompletes}
use Rattle.std.proofs.lemmas.Bool.{cases_lt}
use Rattle.elimination.proofs.Task.{row_not_fill}
use Rattle.elimination.proofs.Places.{orderly_sound}
use Rattle.elimination.proofs.Completion.{job_completes}

-- ---- places
pub place_digits : (h q u : ℕ) → place h q u ≡ (h - 1 - u / q) * q + u % q
unfolding place
place_digits h q u = refl

module _ (h q u : ℕ) (l : u < h * q) where
  size_pos : 0 < q
  size_pos = go q refl
    where
      go : (r : ℕ) → q ≡ r → 0 < r
      go zero e = absurd (not-suc-le-zero (rw (e, mul-zero) at l))
      go (suc r) e = omega arith

  layer_lt : u / q < h
  layer_lt = (div-lt_iff_lt-mul size_pos).1 l

  in_layer : u % q < q
  in_layer = mod-lt u size_pos

  pub place_lt : place h q u < h * q
  unfolding place
  place_lt = digits_lt (let e : u / q < h = layer_lt in omega arith) in_layer

-- two units write two places
place_injective : (h q u v : ℕ) → u < h * q → v < h * q → place h q u ≡ place h q v → u ≡ v
unfolding place
place_injective h q u v hu hv e =
    let ed : h - 1 - u / q ≡ h - 1 - v / q =
    sym (digits_div (h - 1 - u / q) (in_layer h q u hu)) ∙ ap (λ (x : ℕ). x / q) e ∙ digits_div (h - 1 - v / q) (in_layer h q v hv) in
    let em : u % q ≡ v % q =
    sym (digits_mod (h - 1 - u / q) (in_layer h q u hu)) ∙ ap (λ (x : ℕ). x % q) e ∙ digits_mod (h - 1 - v / q) (in_layer h q v hv) in
    let ek : u / q ≡ v / q = omega (arith, layer_lt h q u hu, layer_lt h q v hv) in
    sym (div-add-mod' u q) ∙ ap₂ (λ (x y : ℕ). x * q + y) ek em ∙ div-add-mod' v q

-- the place of entry j of the layer with k rows after it
place_at : (h q k j : ℕ) → j < q → place h q (k * q + j) ≡ (h - suc k) * q + j
unfolding place
place_at h q k j hj = rw (digits_div k hj, digits_mod k hj) (ap (λ (x : ℕ). x * q + j) (omega arith))

-- ---- what a unit does
pub plan_fill : (h q u : ℕ) → u < h * q → plan h q u ≡ fill_at h q u
unfolding plan
plan_fill h q u l = rw (lt-ltb u (h * q) l)

pub plan_row : (h q r : ℕ) → plan h q (h * q + r) ≡ choose_at q r
unfolding plan
plan_row h q r = rw (le-ltb (h * q + r) (h * q) (omega arith), add-sub_cancel_left (h * q) r)

module _ (h q : ℕ) where
  -- a unit past the filling chooses
  pub plan_late : (u : ℕ) → h * q ≤ u → plan h q u ≡ choose_at q (u - h * q)
  plan_late u l = let d : u ≡ h * q + (u - h * q) = omega arith in ap (plan h q) d ∙ plan_row h q (u - h * q)

  -- the place that a unit writes
  pub writes_not : (v p : ℕ) → (v < h * q → p ≡ place h q v → ⊥) → writes (plan h q v) p ≡ false
  writes_not v p n =
      ⊎_elim
      (λ (l : v < h * q).
      subst (λ (o : Task). writes o p ≡ false) (sym (plan_fill h q v l)) (ne_eqb p ((h - 1 - v / q) * q + v % q) (λ e. n l (e ∙ sym (place_digits h q v)))))
      (λ (l : h * q ≤ v). subst (λ (o : Task). writes o p ≡ false) (sym (plan_late v l)) refl) (cases_lt v (h * q))

  -- an entry that is filled stands
  pub stands : (u m : ℕ) → u < h * q → u < m → Stands (plan h q) m (place h q u) (u / q) (u % q)
  stands u m l b = record {
    unit = u;
    source = _;
    target = _;
    before = b;
    fills = plan_fill h q u l;
    place = place_digits h q u;
    since = λ v a c. writes_not v (place h q u) (λ lv e. absurd (omega (arith, place_injective h q u v l lv e)));
  }

  -- entry i of the layer with k rows after it
  stands_at : (k i m p : ℕ) → i < q → k < h → suc k * q ≤ m → p ≡ (h - suc k) * q + i → Stands (plan h q) m p k i
  stands_at k i m p li lk lm e =
      let l : k * q + i < h * q = digits_lt lk li in
      let S = stands (k * q + i) m l (omega arith) in
      let d : place h q (k * q + i) ≡ p = place_at h q k i li ∙ sym e in
      subst (λ (x : ℕ). Stands (plan h q) m x k i) d
      (subst (λ (x : ℕ). Stands (plan h q) m (place h q (k * q + i)) x i) (digits_div k li)
      (subst (λ (x : ℕ). Stands (plan h q) m (place h q (k * q + i)) ((k * q + i) / q) x) (digits_mod k li) S))

  module _ (some : 0 < q) where
    inside : (u k source target j : ℕ) → plan h q u ≡ fill k source target j → target + j < h * q
    inside u k source target j e =
        ⊎_elim
        (λ (l : u < h * q).
        let same : fill_at h q u ≡ fill k source target j = sym (plan_fill h q u l) ∙ e in
        let t : (h - 1 - u / q) * q ≡ target = cc in
        let i : u % q ≡ j = cc in
        omega (arith, place_lt h q u l, place_digits h q u))
        (λ (l : h * q ≤ u). row_not_fill (sym (plan_late u l) ∙ e)) (cases_lt u (h * q))

    reads : (u k source target j : ℕ) → plan h q u ≡ fill (suc k) source target j → (i : ℕ) → i < q → Stands (plan h q) u (source + i) k i
    reads u k source target j e i li =
        ⊎_elim
        (λ (l : u < h * q).
        let same : fill_at h q u ≡ fill (suc k) source target j = sym (plan_fill h q u l) ∙ e in
        let sk : u / q ≡ suc k = cc in
        let ss : (h - u / q) * q ≡ source = cc in
        let n : u / q * q ≡ suc k * q = ap (λ (x : ℕ). x * q) sk in
        let parts = div-add-mod' u q in
        let under : u / q < h = (div-lt_iff_lt-mul some).1 l in
        stands_at k i u (source + i) li (omega arith) (omega arith) (ap (λ (x : ℕ). x + i) (sym ss) ∙ ap (λ (x : ℕ). (h - x) * q + i) sk))
        (λ (l : h * q ≤ u). row_not_fill (sym (plan_late u l) ∙ e)) (cases_lt u (h * q))

    picks : (u r source : ℕ) → u < h * q + h → plan h q u ≡ row r source → (i : ℕ) → i < q → Stands (plan h q) u (source + i) (h - suc r) i
    picks u r source b e i li =
        ⊎_elim (λ (l : u < h * q). row_not_fill (sym e ∙ plan_fill h q u l))
        (λ (l : h * q ≤ u).
        let same : choose_at q (u - h * q) ≡ row r source = sym (plan_late u l) ∙ e in
        let sr : u - h * q ≡ r = cc in
        let ss : (u - h * q) * q ≡ source = cc in
        let k : suc (h - suc r) ≤ h = omega arith in
        let d : h - suc (h - suc r) ≡ u - h * q = omega arith in
        let room : suc (h - suc r) * q ≤ h * q = mul-le-mul_right q k in
        stands_at (h - suc r) i u (source + i) li k (omega arith) (ap (λ (x : ℕ). x + i) (sym ss) ∙ ap (λ (x : ℕ). x * q + i) (sym d)))
        (cases_lt u (h * q))

  -- ---- the schedule
  next : (r : ℕ) → start_of h q (suc r) ≡ suc (start_of h q r + fills_before h q r)
  next zero = omega arith
  next (suc r) = omega arith

  fills : (r m : ℕ) → r < h → m < fills_before h q r → is_fill (plan h q (start_of h q r + m)) ≡ true
  fills zero m hr l = rw (zero-add m, plan_fill h q m l)
  fills (suc r) m hr l = absurd (not-suc-le-zero l)

  chooses : (r : ℕ) → r < h → plan h q (start_of h q r + fills_before h q r) ≡ row r (r * q)
  chooses zero hr = rw zero-add (rw add-zero at (plan_row h q 0))
  chooses (suc r) hr = rw add-zero (plan_row h q (suc r))

  pub scheduled : Scheduled h (plan h q) (schedule h q)
  scheduled = record { first = refl; next = next; fills = fills; chooses = chooses }

pub orderly : (codes h : ℕ) → 0 < codes * codes → Orderly codes h (h * (codes * codes)) (h * (codes * codes) + h) (plan h (codes * codes))
orderly codes h some = record {
  inside = λ u k s t j l e. inside h (codes * codes) some u k s t j e;
  reads = λ u k s t j l e. reads h (codes * codes) some u k s t j e;
  chooses = λ u r s l e. picks h (codes * codes) some u r s l e;
}

pub schedule_lengths : (h q : ℕ) → 0 < h → Lengths h q
schedule_lengths h q high = record { board = go h high; none = omega arith }
  where
    go : (k : ℕ) → 0 < k → start_of k q k ≡ k * (q + 1)
    go zero l = absurd (not-suc-le-zero l)
    go (suc k) l = omega arith

-- THE THEOREM of this plan
pub fill_then_choose_completes : {X B : Type 0} (G : Kind X) (h : ℕ) (write : ℕ → ℕ → B → B) → FillThenChooseCompletes G h write
fill_then_choose_completes G h write L high wide t long β =
    let q = layer_size G in
    let P = orderly_sound G h (h * q) (h * q + h) (plan h q) (schedule h q) (orderly G.codes h (mul-le-mul wide wide)) (scheduled h q) (omega (arith, (schedule_lengths h q high).board)) wide in
    job_completes (fill_then_choose G h write) (schedule h q) L high wide P.0 t (P.1 t long) β
