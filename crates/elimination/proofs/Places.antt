-- An orderly plan keeps the table invariant, so it is sound.
-- Assumes nothing.
use mathlib.Core.Path.{◌≡◌, refl, sym, ◌∙◌, ap}
use mathlib.Core.Bool.{false}
use mathlib.Core.List.{List}
use mathlib.Core.Logic.{⊎_elim}
use Prim.Native.Nat.{ℕ, zero, suc, ◌+◌, ◌-◌, ◌/◌, ◌%◌, ◌≤◌, ◌<◌}
use native.Mathlib.Nat.{zero-add, mod-lt}
use native.Mathlib.Omega.{arith}
use borrow.Author.Tests.{eqb-false}
use lib.ListN.{length, get_or, set, length-set}
use lib.Seq.{get_or-set_same, get_or-set_other}
use Rattle.elimination.specs.Kind.{Kind, entry}
use Rattle.elimination.specs.Table.{reads, right_at, RightLayer}
use Rattle.elimination.specs.Task.{Task, fill, row, fill_task, after_tasks}
use Rattle.elimination.specs.Plan.{Schedule, Scheduled, after_filling, SoundPlan}
use Rattle.elimination.specs.Places.{writes, Stands, Filled, Orderly, TableFilled, OrderlySound}
use Rattle.elimination.proofs.Numbers.{eq_or_lt_of_lt_suc}
use Rattle.elimination.proofs.Kind.{right_entry_last}
use Rattle.elimination.proofs.Task.{row_not_fill, tasks_none, tasks_more, tasks_add}
use Rattle.elimination.proofs.Table.{right_at_entry, entry_right, fill_entry_set}

module _ {X : Type 0} (G : Kind X) {h room long : ℕ} {plan : ℕ → Task} (O : Orderly G.codes h room long plan) (wide : 0 < G.codes) where
  -- an entry that stands after one unit more, which isn't the one that filled it
  stood : {m p k j : ℕ} (S : Stands plan (suc m) p k j) → S.unit < m → Stands plan m p k j
  stood S l = record {
    unit = S.unit;
    source = S.source;
    target = S.target;
    before = l;
    fills = S.fills;
    place = S.place;
    since = λ v a b. S.since v a (omega arith);
  }

  -- over entries that stand, the rule of an entry gives the right one
  entry_stands : (m : ℕ) (t₀ t : List X) → m < long → Filled G plan m t₀ t → (k source target j : ℕ) → plan m ≡ fill k source target j
      → entry G k (j / G.codes) (j % G.codes) (reads G t source (j % G.codes)) ≡ right_at G k j
  entry_stands m t₀ t l F zero source target j e =
      sym (right_entry_last G (j / G.codes) (j % G.codes) (reads G t source (j % G.codes))) ∙ sym (right_at_entry G 0 j)
  entry_stands m t₀ t l F (suc k) source target j e =
      entry_right G t source k (λ i li. F.right (source + i) k i (O.reads m k source target j l e i li)) (j / G.codes) (j % G.codes) (mod-lt j wide)
      ∙ sym (right_at_entry G (suc k) j)

  -- one unit more
  filled_more : (m : ℕ) (t₀ t : List X) → room ≤ length t₀ → m < long → Filled G plan m t₀ t → Filled G plan (suc m) t₀ (fill_task G (plan m) t)
  filled_more m t₀ t long₀ l F = go (plan m) refl
    where
      go : (o : Task) → plan m ≡ o → Filled G plan (suc m) t₀ (fill_task G o t)
      go (row r s) e = record {
        size = F.size;
        right = λ p k j S. ⊎_elim (λ (q : S.unit ≡ m). row_not_fill (sym e ∙ ap plan (sym q) ∙ S.fills)) (λ (q : S.unit < m). F.right p k j (stood S q)) (eq_or_lt_of_lt_suc S.before);
        rest = λ p f. F.rest p (λ v b. f v (omega arith));
      }
      go (fill k source target j) e = rw (fill_entry_set G k source target j t) (record {
        size = length-set t P x ∙ F.size;
        right = λ p k' j' S. ⊎_elim (λ (q : S.unit ≡ m). last p k' j' S q) (λ (q : S.unit < m). other p (S.since m q (omega arith)) ∙ F.right p k' j' (stood S q)) (eq_or_lt_of_lt_suc S.before);
        rest = λ p f. other p (f m (omega arith)) ∙ F.rest p (λ v b. f v (omega arith));
      })
        where
          P : ℕ
          P = target + j

          x : X
          x = entry G k (j / G.codes) (j % G.codes) (reads G t source (j % G.codes))

          other : (p : ℕ) → writes (plan m) p ≡ false → get_or (set t P x) p G.start ≡ get_or t p G.start
          other p f = get_or-set_other t P p x G.start (λ q. eqb-false p P (rw e at f) q)

          last : (p k' j' : ℕ) (S : Stands plan (suc m) p k' j') → S.unit ≡ m → get_or (set t P x) p G.start ≡ right_at G k' j'
          last p k' j' S q =
              let same : fill k' S.source S.target j' ≡ fill k source target j = sym S.fills ∙ ap plan q ∙ e in
              let sk : k' ≡ k = cc in
              let sj : j' ≡ j = cc in
              let sp : p ≡ P = S.place ∙ (let st : S.target ≡ target = cc in omega arith) in
              rw (sk, sj, sp) (get_or-set_same t P x G.start (omega (arith, O.inside m k source target j l e, F.size)) ∙ entry_stands m t₀ t l F k source target j e)

  pub filled : (t₀ : List X) → room ≤ length t₀ → (m : ℕ) → m ≤ long → Filled G plan m t₀ (after_tasks G plan 0 m t₀)
  unfolding after_tasks
  filled t₀ r zero l = record { size = refl; right = λ p k j S. absurd (omega (arith, S.before)); rest = λ p f. refl }
  filled t₀ r (suc m) l = rw (zero-add m) (filled_more m t₀ (after_tasks G plan 0 m t₀) r (omega arith) (filled t₀ r m (omega arith)))

pub table_filled : {X : Type 0} (G : Kind X) → TableFilled G
table_filled G h room long plan O wide t₀ r m l = filled G O wide t₀ r m l

-- ---- soundness
-- a row is chosen before the next one's filling starts, and so before the last row is spent
module _ {h : ℕ} {plan : ℕ → Task} {S : Schedule} (C : Scheduled h plan S) where
  starts_rise : (d r : ℕ) → S.start r ≤ S.start (r + d)
  starts_rise zero r = let e : r + 0 ≡ r = omega arith in rw e (omega arith)
  starts_rise (suc d) r =
      let e : r + suc d ≡ suc (r + d) = omega arith in
      rw e (omega (arith, starts_rise d r, C.next (r + d)))

  pub row_before_lem : (r : ℕ) → r < h → S.start r + S.work r < S.start h
  row_before_lem r l =
      let e : suc r + (h - suc r) ≡ h = omega arith in
      let m : S.start (suc r) ≤ S.start h = rw e at (starts_rise (h - suc r) (suc r)) in
      omega (arith, C.next r)

module _ {X : Type 0} (G : Kind X) {h room long : ℕ} {plan : ℕ → Task} {S : Schedule} (O : Orderly G.codes h room long plan) (C : Scheduled h plan S) (spent : S.start h ≤ long)
    (wide : 0 < G.codes) where
  -- the table is what the units before row r left of one with room
  abbrev Ready : ℕ → List X → Type 0
  Ready r t = (t₀ : List X) × (room ≤ length t₀) × (t ≡ after_tasks G plan 0 (S.start r) t₀)

  abbrev at : ℕ → ℕ
  at r = S.start r + S.work r

  worked : (r : ℕ) (t : List X) (y : Ready r t) → after_filling G plan S r t ≡ after_tasks G plan 0 (at r) y.0
  worked r t y = ap (after_tasks G plan (S.start r) (S.work r)) y.2 ∙ tasks_add G plan (S.start r) (S.work r) y.0

  right : (r : ℕ) (t : List X) → r < h → Ready r t → RightLayer G (after_filling G plan S r t) (S.source r) (h - suc r)
  right r t l y =
      let in-time : at r < long = omega (arith, row_before_lem C r l, spent) in
      rw (worked r t y)
      (λ j b. (filled G O wide y.0 y.1 (at r) (omega (arith, in-time))).right (S.source r + j) (h - suc r) j
      (O.chooses (at r) r (S.source r) in-time (C.chooses r l) j b))

  again : (r : ℕ) (t : List X) → r < h → Ready r t → Ready (suc r) (after_filling G plan S r t)
  again r t l y =
      (y.0, y.1, worked r t y ∙ sym (ap (λ (m : ℕ). after_tasks G plan 0 m y.0) (C.next r) ∙ tasks_more G plan (at r) y.0 ∙ ap (λ (o : Task). fill_task G o (after_tasks G plan 0 (at r) y.0)) (C.chooses r l)))

  pub sound : SoundPlan G h plan S
  sound = record { scheduled = C; Ready = Ready; right = right; again = again }

  pub ready : (t : List X) → room ≤ length t → Ready 0 t
  ready t r = (t, r, sym (ap (λ (m : ℕ). after_tasks G plan 0 m t) C.first ∙ tasks_none G plan t))

pub orderly_sound : {X : Type 0} (G : Kind X) → OrderlySound G
unfolding sound
orderly_sound G h room long plan S O C spent wide = (sound G O C spent wide, ready G O C spent wide)
