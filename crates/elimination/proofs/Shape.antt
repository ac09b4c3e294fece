-- A job's numbers go on fitting, for any lawful shape; and the shapes are lawful.
-- Assumes nothing.
use mathlib.Core.Path.{◌≡◌, refl, sym, ◌∙◌, ap, subst}
use mathlib.Core.Bool.{Bool, true, false, cond, ◌&&◌, true≢false}
use mathlib.Core.Logic.{⊎_elim}
use Prim.Native.Nat.{ℕ, zero, suc, ◌+◌, ◌-◌, ◌*◌, ◌≤◌, ◌<◌}
use native.Mathlib.Nat.{mul-le-mul, zero-add, add-sub_cancel_left}
use native.Mathlib.Omega.{arith}
use borrow.Author.Tests.{ltb-true, ltb-false, leb-true, eqb-true, lt-ltb, le-leb, lt-leb, eq-eqb, ne_eqb}
use lib.Dec.{eqb, leb, ltb}
use Rattle.board.proofs.Tests.{and_left, and_right, and_true}
use Rattle.elimination.specs.Task.{Task, fill, row, is_fill}
use Rattle.elimination.specs.FillThenChoose as Whole
use Rattle.elimination.specs.TwoLayers as Two
use Rattle.elimination.specs.Shape.{Shape, Numbers, units_fit, rows_chosen, rows_fit, numbers_fit, entries_filled, after_entry, after_none, ShapeLaws, NumbersGoOn, whole, chosen_from, two_layers, ShapesLawful}
use Rattle.std.proofs.lemmas.Bool.{cases_lt}
use Rattle.elimination.proofs.Task.{row_not_fill}
use Rattle.elimination.proofs.FillThenChoose.{plan_fill, plan_late}
use Rattle.elimination.proofs.Places.{row_before_lem}
use Rattle.elimination.proofs.TwoLayers as Twos

-- ---- tests as facts
when_of : (t x : Bool) → (t ≡ true → x ≡ true) → cond t x true ≡ true
when_of true x f = f refl
when_of false x f = refl

when_at : (t x : Bool) → cond t x true ≡ true → t ≡ true → x ≡ true
when_at true x e p = e
when_at false x e p = absurd (true≢false (sym p))

-- ---- what numbers that fit have
pub record Rows (most k above last live : ℕ) : Type 0 where
  pub few : live ≤ most * k
  pub none : k ≡ 0 → last ≡ 0
  pub one : k < 2 → above ≡ 0

rows_of : {most k above last live : ℕ} → Rows most k above last live → rows_fit most k above last live ≡ true
unfolding rows_fit
rows_of {most} {k} {above} {last} {live} r =
    and_true (and_true (le-leb live (most * k) r.few) (when_of (eqb k 0) (eqb last 0) (λ e. eq-eqb last 0 (r.none (eqb-true k 0 e)))))
    (when_of (ltb k 2) (eqb above 0) (λ e. eq-eqb above 0 (r.one (ltb-true k 2 e))))

rows_at : (most k above last live : ℕ) → rows_fit most k above last live ≡ true → Rows most k above last live
unfolding rows_fit
rows_at most k above last live e =
    let first = and_left (leb live (most * k) && cond (eqb k 0) (eqb last 0) true) (cond (ltb k 2) (eqb above 0) true) e in
    let third = and_right (leb live (most * k) && cond (eqb k 0) (eqb last 0) true) (cond (ltb k 2) (eqb above 0) true) e in
    let second = and_right (leb live (most * k)) (cond (eqb k 0) (eqb last 0) true) first in record {
      few = leb-true live (most * k) (and_left (leb live (most * k)) (cond (eqb k 0) (eqb last 0) true) first);
      none = λ z. eqb-true last 0 (when_at (eqb k 0) (eqb last 0) second (eq-eqb k 0 z));
      one = λ l. eqb-true above 0 (when_at (ltb k 2) (eqb above 0) third (lt-ltb k 2 l));
    }

-- the units, by the end mark
pub data Units (S : Shape) (units : ℕ) : ℕ → Type 0 where
  runs : units < S.board_length → Units S units 0
  ends : units ≡ S.board_length → Units S units 1
  fails : units ≡ S.none_length → Units S units 2

pub units_at : (S : Shape) (units mark : ℕ) → units_fit S units mark ≡ true → Units S units mark
unfolding units_fit
units_at S units zero e = runs (ltb-true units S.board_length e)
units_at S units (suc zero) e = ends (eqb-true units S.board_length e)
units_at S units (suc (suc zero)) e = fails (eqb-true units S.none_length e)
units_at S units (suc (suc (suc m))) e =
    let other : (n : ℕ) → n ≤ 2 → eqb (suc (suc (suc m))) n ≡ false = λ n l. ne_eqb (suc (suc (suc m))) n (λ q. omega arith) in
    absurd (true≢false (sym (rw (other 0 (omega arith), other 1 (omega arith), other 2 (omega arith)) at e)))

pub record NumbersAre (S : Shape) (n : Numbers) : Type 0 where
  pub over : n.above < S.codes
  pub below : n.last < S.codes
  pub units : Units S n.units n.mark
  pub rows : Rows S.most (rows_chosen S n.units n.mark) n.above n.last n.live

pub numbers_at : (S : Shape) (n : Numbers) → numbers_fit S n ≡ true → NumbersAre S n
unfolding numbers_fit
numbers_at S n e =
    let a = ltb n.above S.codes in
    let b = ltb n.last S.codes in
    let u = units_fit S n.units n.mark in
    let r = rows_fit S.most (rows_chosen S n.units n.mark) n.above n.last n.live in
    let p3 = and_left (a && b && u) r e in
    let p2 = and_left (a && b) u p3 in record {
      over = ltb-true n.above S.codes (and_left a b p2);
      below = ltb-true n.last S.codes (and_right a b p2);
      units = units_at S n.units n.mark (and_right (a && b) u p3);
      rows = rows_at S.most (rows_chosen S n.units n.mark) n.above n.last n.live (and_right (a && b && u) r e);
    }

module _ (S : Shape) where
  -- numbers that fit, with k rows chosen
  fit_of : (n : Numbers) → n.above < S.codes → n.last < S.codes → units_fit S n.units n.mark ≡ true
      → (k : ℕ) → rows_chosen S n.units n.mark ≡ k → Rows S.most k n.above n.last n.live → numbers_fit S n ≡ true
  unfolding numbers_fit
  fit_of n a b u k e r = and_true (and_true (and_true (lt-ltb n.above S.codes a) (lt-ltb n.last S.codes b)) u) (rw e (rows_of r))

  -- those of an opened job fit
  pub numbers_start : ShapeLaws S → 0 < S.codes → 0 < S.board_length → numbers_fit S (record { units = 0; above = 0; last = 0; live = 0; mark = 0 }) ≡ true
  unfolding units_fit rows_chosen
  numbers_start L codes long =
      fit_of (record { units = 0; above = 0; last = 0; live = 0; mark = 0 }) codes codes (lt-ltb 0 S.board_length long) 0 L.none_chosen
      (record { few = omega arith; none = λ q. refl; one = λ q. refl })

  -- a running job's
  record Runs (n : Numbers) : Type 0 where
    over : n.above < S.codes
    below : n.last < S.codes
    until : n.units < S.board_length
    rows : Rows S.most (S.chosen n.units) n.above n.last n.live

  runs_at : (n : Numbers) → numbers_fit S n ≡ true → n.mark ≡ 0 → Runs n
  unfolding rows_chosen
  runs_at n e m =
      let F = numbers_at S n e in record { over = F.over; below = F.below; until = go n.mark F.units m; rows = rw m at F.rows }
    where
      go : (k : ℕ) → Units S n.units k → k ≡ 0 → n.units < S.board_length
      go k (runs l) z = l
      go k (ends q) z = absurd (omega arith)
      go k (fails q) z = absurd (omega arith)

pub numbers_go_on : (S : Shape) → NumbersGoOn S
unfolding units_fit rows_chosen
numbers_go_on S L n f m = record {
  after_entry_lem = λ k source target j p.
      let e = L.fills n.units k source target j R.until p in
      fit_of S (after_entry n) R.over R.below (lt-ltb (suc n.units) S.board_length e.1) (S.chosen n.units) e.0 R.rows;
  after_row_lem = λ r source p c x lc lx. go r source p c x lc lx (ltb (suc r) S.rows) refl;
  after_none_lem = λ source p.
      let e = L.chooses n.units 0 source R.until p in
      let q : S.chosen n.units ≡ 0 = e.0 in
      let s = rw q at R.rows in
      fit_of S (after_none n) R.over R.below (eq-eqb (suc n.units) S.none_length (L.none n.units source R.until p)) 0 refl s;
}
  where
    R : Runs S n
    R = runs_at S n f m

    go : (r source : ℕ) → S.plan n.units ≡ row r source → (c x : ℕ) → c < S.codes → x ≤ S.most + n.live → (b : Bool) → ltb (suc r) S.rows ≡ b
        → numbers_fit S (record { units = suc n.units; above = n.last; last = c; live = x; mark = cond b 0 1 }) ≡ true
    go r source p c x lc lx b e = fin b e
      where
        k : (S.chosen n.units ≡ r) × (S.chosen (suc n.units) ≡ suc r)
        k = L.chooses n.units r source R.until p

        old : Rows S.most r n.above n.last n.live
        old = rw k.0 at R.rows

        rows : Rows S.most (suc r) n.last c x
        rows = record { few = omega (arith, old.few, lx); none = λ q. absurd (omega arith); one = λ l. old.none (omega arith) }

        fin : (b : Bool) → ltb (suc r) S.rows ≡ b → numbers_fit S (record { units = suc n.units; above = n.last; last = c; live = x; mark = cond b 0 1 }) ≡ true
        fin true q =
            fit_of S (record { units = suc n.units; above = n.last; last = c; live = x; mark = 0 }) R.below lc
            (lt-ltb (suc n.units) S.board_length (L.goes_on n.units r source R.until p (ltb-true (suc r) S.rows q))) (suc r) k.1 rows
        fin false q =
            fit_of S (record { units = suc n.units; above = n.last; last = c; live = x; mark = 1 }) R.below lc
            (eq-eqb (suc n.units) S.board_length (L.ends n.units r source R.until p (ltb-false (suc r) S.rows q))) (suc r) k.1 rows

-- ---- the rows chosen, for any lawful shape
-- none where no unit has chosen
pub rows_chosen_none : (S : Shape) (u mark : ℕ) → S.chosen u ≡ 0 → rows_chosen S u mark ≡ 0
unfolding rows_chosen
rows_chosen_none S u mark e = go (eqb mark 2)
  where
    go : (b : Bool) → cond b 0 (S.chosen u) ≡ 0
    go true = refl
    go false = e

module _ (S : Shape) (L : ShapeLaws S) where
  -- before the last unit there is a row to choose
  pub chosen_few : 0 < S.rows → (m : ℕ) → m < S.board_length → S.chosen m < S.rows
  chosen_few high zero l = rw L.none_chosen high
  chosen_few high (suc m) l = go (S.plan m) refl (chosen_few high m (omega arith))
    where
      go : (o : Task) → S.plan m ≡ o → S.chosen m < S.rows → S.chosen (suc m) < S.rows
      go (fill k source target j) p i = rw (L.fills m k source target j (omega arith) p).0 i
      go (row r source) p i =
          ⊎_elim (λ (a : suc r < S.rows). rw (L.chooses m r source (omega arith) p).1 a)
          (λ (a : S.rows ≤ suc r). absurd (omega (arith, L.ends m r source (omega arith) p a))) (cases_lt (suc r) S.rows)

  -- the units are the entries filled and the rows chosen
  pub units_split : (m : ℕ) → m ≤ S.board_length → m ≡ entries_filled S.plan m + S.chosen m
  unfolding entries_filled
  units_split zero l = omega (arith, L.none_chosen)
  units_split (suc m) l = go (S.plan m) refl (units_split m (omega arith))
    where
      go : (o : Task) → S.plan m ≡ o → m ≡ entries_filled S.plan m + S.chosen m
          → suc m ≡ entries_filled S.plan m + cond (is_fill (S.plan m)) 1 0 + S.chosen (suc m)
      go (fill k source target j) p i = rw p (omega (arith, i, (L.fills m k source target j (omega arith) p).0))
      go (row r source) p i = let c = L.chooses m r source (omega arith) p in rw p (omega (arith, i, c.0, c.1))

  -- before the length of none no row is chosen
  pub chosen_late : S.none_length ≤ S.board_length → (m : ℕ) → m < S.none_length → S.chosen m ≡ 0
  chosen_late short zero l = L.none_chosen
  chosen_late short (suc m) l = go (S.plan m) refl (chosen_late short m (omega arith))
    where
      go : (o : Task) → S.plan m ≡ o → S.chosen m ≡ 0 → S.chosen (suc m) ≡ 0
      go (fill k source target j) p i = (L.fills m k source target j (omega arith) p).0 ∙ i
      go (row r source) p i =
          let z : r ≡ 0 = sym (L.chooses m r source (omega arith) p).0 ∙ i in
          absurd (omega (arith, L.none m source (omega arith) (p ∙ ap (λ (x : ℕ). row x source) z)))

-- ---- the whole table, then the rows
module _ (codes h most : ℕ) where
  abbrev q : ℕ
  q = codes * codes

  early : (u k source target j : ℕ) → Whole.plan h q u ≡ fill k source target j → u < h * q
  early u k source target j p = ⊎_elim (λ (l : u < h * q). l) (λ (l : h * q ≤ u). row_not_fill (sym (plan_late h q u l) ∙ p)) (cases_lt u (h * q))

  late : (u r source : ℕ) → Whole.plan h q u ≡ row r source → u ≡ h * q + r
  late u r source p =
      ⊎_elim (λ (l : u < h * q). row_not_fill (sym p ∙ plan_fill h q u l))
      (λ (l : h * q ≤ u).
      let e : row (u - h * q) ((u - h * q) * q) ≡ row r source = sym (plan_late h q u l) ∙ p in
      let f : u - h * q ≡ r = cc in omega arith)
      (cases_lt u (h * q))

  pub whole_lawful : 0 < h → ShapeLaws (whole codes h most)
  whole_lawful high = record {
    none_chosen = omega arith;
    fills = λ u k s t j l p. let e = early u k s t j p in (omega arith, omega arith);
    chooses = λ u r s l p. let e = late u r s p in (omega arith, omega arith);
    goes_on = λ u r s l p m. let e = late u r s p in omega arith;
    ends = λ u r s l p m. let e = late u r s p in omega arith;
    none = λ u s l p. let e = late u 0 s p in omega arith;
  }

-- ---- two layers
module _ (h q : ℕ) where
  chosen_none : (n u : ℕ) → u ≤ suc n * q → chosen_from q (suc n) u ≡ 0
  unfolding chosen_from
  chosen_none n u l = rw (le-leb u (suc n * q) l)

  chosen_more : (n u : ℕ) → chosen_from q (suc n) (suc (suc n * q) + u) ≡ suc (chosen_from q n u)
  unfolding chosen_from
  chosen_more n u = rw (lt-leb (suc (suc n * q) + u) (suc n * q) (omega arith), add-sub_cancel_left (suc (suc n * q)) u)

  -- in the filling before row r, and when it is chosen, r rows are chosen
  chosen_from_lem : (r : ℕ) → r ≤ h → (u : ℕ) → chosen_from q h (Two.start_of h q r + u) ≡ r + chosen_from q (h - r) u
  chosen_from_lem zero l u =
      ap (chosen_from q h) (ap (λ (x : ℕ). x + u) (Twos.start_first h q) ∙ zero-add u) ∙ ap (λ (n : ℕ). chosen_from q n u) (omega arith) ∙ sym (zero-add (chosen_from q (h - 0) u))
  chosen_from_lem (suc r) l u =
      let n = h - suc r in
      let e : h - r ≡ suc n = omega arith in
      let s : Two.start_of h q (suc r) + u ≡ Two.start_of h q r + (suc (suc n * q) + u) = omega (arith, Twos.start_more h q r, ap (λ (x : ℕ). x * q) e) in
      let i : chosen_from q h (Two.start_of h q r + (suc (suc n * q) + u)) ≡ r + chosen_from q (h - r) (suc (suc n * q) + u) = chosen_from_lem r (omega arith) (suc (suc n * q) + u) in
      let f : chosen_from q (h - r) (suc (suc n * q) + u) ≡ suc (chosen_from q n u) = ap (λ (x : ℕ). chosen_from q x (suc (suc n * q) + u)) e ∙ chosen_more n u in
      ap (chosen_from q h) s ∙ i ∙ omega (arith, f)

  chosen_here : (r m : ℕ) → r < h → m ≤ (h - r) * q → chosen_from q h (Two.start_of h q r + m) ≡ r
  chosen_here r m l b =
      let e : h - r ≡ suc (h - suc r) = omega arith in
      let z : chosen_from q (h - r) m ≡ 0 = ap (λ (x : ℕ). chosen_from q x m) e ∙ chosen_none (h - suc r) m (rw e at b) in
      omega (arith, chosen_from_lem r (omega arith) m)

  -- and then one more
  chosen_last : (n : ℕ) → chosen_from q n 0 ≡ 0
  unfolding chosen_from
  chosen_last zero = refl
  chosen_last (suc n) = chosen_none n 0 (omega arith)

  chosen_next : (r : ℕ) → r < h → chosen_from q h (suc (Two.start_of h q r + (h - r) * q)) ≡ suc r
  chosen_next r l =
      let e : suc (Two.start_of h q r + (h - r) * q) ≡ Two.start_of h q (suc r) + 0 = omega (arith, Twos.start_more h q r) in
      ap (chosen_from q h) e ∙ omega (arith, chosen_from_lem (suc r) l 0, chosen_last (h - suc r))

pub two_lawful : (codes h most : ℕ) → 0 < codes → 0 < h → ShapeLaws (two_layers codes h most)
two_lawful codes h most wide high = record {
  none_chosen = chosen_last h q h;
  fills = fills;
  chooses = chooses;
  goes_on = goes_on;
  ends = ends;
  none = none;
}
  where
    q : ℕ
    q = codes * codes

    some : 0 < q
    some = mul-le-mul wide wide

    at : (r : ℕ) → ℕ
    at r = Two.start_of h q r + (h - r) * q

    -- a unit that chooses row r
    late : (u r source : ℕ) → u < Two.start_of h q h → Two.plan h q u ≡ row r source → (u ≡ Two.start_of h q r + (h - r) * q) × (r < h)
    late u r source l p = go (Twos.does h q u l)
      where
        go : Twos.Does h q u → (u ≡ Two.start_of h q r + (h - r) * q) × (r < h)
        go (Twos.fills r' m lr lm is) = row_not_fill (sym p ∙ ap (Two.plan h q) is ∙ Twos.plan_fill h q r' m lr lm)
        go (Twos.chooses r' lr is) =
            let e : row r' (Two.half q (r' + 1)) ≡ row r source = sym (Twos.plan_row h q r' lr) ∙ ap (Two.plan h q) (sym is) ∙ p in
            let f : r' ≡ r = cc in
            (subst (λ (x : ℕ). u ≡ Two.start_of h q x + (h - x) * q) f is, rw f at lr)

    fills : (u k source target j : ℕ) → u < Two.start_of h q h → Two.plan h q u ≡ fill k source target j → (chosen_from q h (suc u) ≡ chosen_from q h u) × (suc u < Two.start_of h q h)
    fills u k source target j l p = go (Twos.does h q u l)
      where
        go : Twos.Does h q u → (chosen_from q h (suc u) ≡ chosen_from q h u) × (suc u < Two.start_of h q h)
        go (Twos.fills r m lr lm is) =
            let e : suc u ≡ Two.start_of h q r + suc m = omega arith in (
              ap (chosen_from q h) e ∙ chosen_here h q r (suc m) lr lm ∙ sym (ap (chosen_from q h) is ∙ chosen_here h q r m lr (omega arith)),
              omega (arith, row_before_lem (Twos.scheduled h q some) r lr),
            )
        go (Twos.chooses r lr is) = row_not_fill (sym (Twos.plan_row h q r lr) ∙ ap (Two.plan h q) (sym is) ∙ p)

    chooses : (u r source : ℕ) → u < Two.start_of h q h → Two.plan h q u ≡ row r source → (chosen_from q h u ≡ r) × (chosen_from q h (suc u) ≡ suc r)
    chooses u r source l p =
        let e = late u r source l p in
        (ap (chosen_from q h) e.0 ∙ chosen_here h q r ((h - r) * q) e.1 (omega arith), ap (λ (x : ℕ). chosen_from q h (suc x)) e.0 ∙ chosen_next h q r e.1)

    goes_on : (u r source : ℕ) → u < Two.start_of h q h → Two.plan h q u ≡ row r source → suc r < h → suc u < Two.start_of h q h
    goes_on u r source l p m =
        let e = late u r source l p in
        omega (arith, e.0, Twos.start_more h q r, row_before_lem (Twos.scheduled h q some) (suc r) m)

    ends : (u r source : ℕ) → u < Two.start_of h q h → Two.plan h q u ≡ row r source → h ≤ suc r → suc u ≡ Two.start_of h q h
    ends u r source l p m =
        let e = late u r source l p in
        let f : suc r ≡ h = omega (arith, e.1) in
        omega (arith, e.0, Twos.start_more h q r, ap (Two.start_of h q) f)

    none : (u source : ℕ) → u < Two.start_of h q h → Two.plan h q u ≡ row 0 source → suc u ≡ h * q + 1
    none u source l p =
        let e = late u 0 source l p in
        let f : h - 0 ≡ h = omega arith in
        omega (arith, rw f at e.0, Twos.start_first h q)

pub shapes_lawful : ShapesLawful
shapes_lawful codes h most wide high = (whole_lawful codes h most high, two_lawful codes h most wide high)
