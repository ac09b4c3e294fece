-- An entry by column elimination is the rule's entry; and what eight rows b add to a layer.
-- Assumes nothing.
use mathlib.Core.Path.{◌≡◌, refl, ◌∙◌, ap}
use mathlib.Core.Bool.{Bool, true, false, cond}
use mathlib.Core.List.{List}
use Prim.Native.Nat.{ℕ, suc, ◌+◌, ◌*◌, ◌-◌, ◌%◌, ◌^◌, ◌<◌, ◌≤◌}
use native.Mathlib.Nat.{add-mul}
use native.Mathlib.Omega.{arith}
use native.Mathlib.Decide.{dec_lt}
use lib.Dec.{eqb}
use lib.ListN.{length, get_or}
use borrow.Author.Tests.{lt-ltb, le-ltb, lt-leb, le-leb, eq-eqb, ne_eqb}
use Rattle.elimination.specs.Kind.{entry}
use Rattle.elimination.specs.Table.{reads}
use Rattle.life.specs.Rows.{agree}
use Rattle.score_table.specs.Rows.{row_worth, row_kept, row_gain}
use Rattle.score_table.specs.ScoreTable.{absent, kind_for}
use Rattle.score_table.specs.declared.Want.{Want}
use Rattle.score_table.proofs.Marks.{row_worth_le}
use Rattle.column_elimination.specs.Columns.{keep_if, held, scored, start_number, entry_in, entry_by, after_last, VectorHolds, Ended, Turned, Keeps, last_mask, column_mask, crossed}
use Rattle.column_elimination.specs.Written.{Wrote, Spread}
use Rattle.column_elimination.proofs.Greatest.{greatest_same}
use Rattle.column_elimination.proofs.Elimination.{keep_most, held_is_greatest}
use Rattle.column_elimination.proofs.Choosing.{greatest_is_entry}
use Rattle.column_elimination.proofs.Vectors.{column_holds, ended_held}

-- ---- numbers at the start are small
scored_most : (limit w g e : ℕ) → limit + w < absent → g ≤ w + 1 → scored limit g e ≤ 65535
unfolding scored
scored_most limit w g e fits h =
    elim (dec_lt limit e) [
      | yes l ↦ rw (lt-leb e limit l) (none (eqb g 0))
      | no l ↦ rw (le-leb e limit (omega arith)) (some (eqb g 0) (omega arith))
    ]
  where
    none : (t : Bool) → cond t 0 0 ≤ 65535
    none true = omega arith
    none false = omega arith

    some : (t : Bool) → e ≤ limit → cond t 0 (g + e) ≤ 65535
    some true l = omega arith
    some false l = omega arith

pub start_most : (limit w : ℕ) (gains read : ℕ → ℕ) → limit + w < absent → ((c : ℕ) → c < 2 ^ w → gains c ≤ w + 1) → (x : ℕ) → start_number limit w gains read x ≤ 65535
unfolding start_number
start_most limit w gains read fits h x =
    elim (dec_lt x (2 ^ w)) [
      | yes l ↦ rw (lt-ltb x (2 ^ w) l) (scored_most limit w (gains x) (read x) fits (h x l))
      | no l ↦ rw (le-ltb x (2 ^ w) (omega arith)) (omega arith)
    ]

-- ---- an entry
pub entry_by_lem : (want : Want) (next : ℕ → ℕ) (w h : ℕ) (givens : List ℕ) (k a b : ℕ) (gains : ℕ → ℕ) (table : List ℕ) (below : ℕ)
    → want.least ≡ false → want.halves ≡ false → want.predecessor ≡ false → a < 2 ^ w → b < 2 ^ w → ((c : ℕ) → c < 2 ^ w → gains c ≡ row_gain w givens ((h - suc k) * w) c)
    → entry_by want.limit next w gains table below a b
    ≡ entry (kind_for want next w h givens) (suc k) a b (reads (kind_for want next w h givens) table below b)
unfolding entry_by start_number reads
entry_by_lem want next w h givens k a b gains table below most digits stays la lb same =
    let limit = want.limit in
    let read : ℕ → ℕ = λ c. get_or table (below + b * 2 ^ w + c) 0 in
    let wanted : ℕ → ℕ = reads (kind_for want next w h givens) table below b in
    let place : (c : ℕ) → below + b * 2 ^ w + c ≡ below + (b * 2 ^ w + c) = λ c. omega arith in
    ap entry_in
    (held_is_greatest next w a b (start_number limit w gains read) la lb (λ c l. rw (le-ltb c (2 ^ w) l))
    ∙ greatest_same (λ c. keep_if (agree next w a b c) (start_number limit w gains read c))
    (λ c. keep_if (agree next w a b c) (start_number limit w (row_gain w givens ((h - suc k) * w)) wanted c)) (2 ^ w)
    (λ c l. ap (keep_if (agree next w a b c)) (rw (same c l, digits, place c))))
    ∙ greatest_is_entry want next w h givens k a b wanted most digits stays

-- ---- the last two columns
pub ended_spread : (next : ℕ → ℕ) (keep : List ℕ) → Keeps next keep → (w b out : ℕ) (vector last : List ℕ) {table new : List ℕ}
    → Spread (2 ^ w) out b (2 ^ w) (λ a l. entry_in (after_last vector last a l)) table new
    → ((t : ℕ) → t < 128 → get_or last t 0 ≡ last_mask keep w b t) → Ended next w b out vector table new
ended_spread next keep K w b out vector last S M = record {
  spread = λ f small H. record {
    long = S.long;
    inside = λ a l la ll. S.inside a l la ll ∙ ap entry_in (ended_held next keep K w b f small vector last H M a l la ll);
    left = S.left;
    right = S.right;
    before = S.before;
    after = S.after;
  };
}

-- ---- a layer
-- after the rows b below m
pub record Partly (n out m : ℕ) (f : ℕ → ℕ → ℕ) (old new : List ℕ) : Type 0 where
  pub long : length new ≡ length old
  pub inside : (a b : ℕ) → a < n → b < m → get_or new (out + a * n + b) 0 ≡ f a b
  pub before : (p : ℕ) → p < out → get_or new p 0 ≡ get_or old p 0
  pub after : (p : ℕ) → out + n * n ≤ p → get_or new p 0 ≡ get_or old p 0

pub partly_none : (n out : ℕ) (f : ℕ → ℕ → ℕ) (l : List ℕ) → Partly n out 0 f l l
partly_none n out f l = record { long = refl; inside = λ a b la lb. absurd (omega arith); before = λ p h. refl; after = λ p h. refl }

pub partly_more : (n out m : ℕ) {f g : ℕ → ℕ → ℕ} {old new last : List ℕ} → m + 8 ≤ n → Partly n out m f old new
    → Spread n out m n g new last → ((a l : ℕ) → a < n → l < 8 → g a l ≡ f a (m + l)) → Partly n out (m + 8) f old last
partly_more n out m {f} {g} {old} {new} {last} room S W e = record {
  long = W.long ∙ S.long;
  inside = λ a b la lb.
      elim (dec_lt b m) [
        | yes q ↦ W.left a b la q ∙ S.inside a b la q
        | no q ↦
            let z : m + (b - m) ≡ b = omega arith in
            let r : get_or last (out + a * n + (m + (b - m))) 0 ≡ f a (m + (b - m)) = W.inside a (b - m) la (omega arith) ∙ e a (b - m) la (omega arith) in
            rw z at r
      ];
  before = λ p h. W.before p h ∙ S.before p h;
  after = λ p h. W.after p h ∙ S.after p h;
}

-- ---- a column, from one vector to the other
module _ (next : ℕ → ℕ) (keep : List ℕ) (K : Keeps next keep) (w b j : ℕ) (inside : j < w) (masks : List ℕ)
    (M : (t : ℕ) → t < 512 → get_or masks t 0 ≡ column_mask keep w b j t) {s d : List ℕ} where
  pub turned_even : {d' : List ℕ} → j % 2 ≡ 0 → 32 * 2 ^ w ≤ length d → Wrote 0 (32 * 2 ^ w) (crossed s masks (2 ^ (w + 2 - j))) d d' → Turned next w b j s d s d'
  turned_even {d'} even room W =
      let e : eqb (j % 2) 0 ≡ true = eq-eqb (j % 2) 0 even in
      let n : eqb ((j + 1) % 2) 0 ≡ false = ne_eqb ((j + 1) % 2) 0 (λ z. omega arith) in record {
        holds = λ f small H. rw n (column_holds next keep K w b j inside f small s masks (rw e at H) M W room);
      }

  pub turned_odd : {s' : List ℕ} → (j % 2 ≡ 0 → ⊥) → 32 * 2 ^ w ≤ length s → Wrote 0 (32 * 2 ^ w) (crossed d masks (2 ^ (w + 2 - j))) s s' → Turned next w b j s d s' d
  turned_odd {s'} odd room W =
      let e : eqb (j % 2) 0 ≡ false = ne_eqb (j % 2) 0 odd in
      let n : eqb ((j + 1) % 2) 0 ≡ true = eq-eqb ((j + 1) % 2) 0 (let z : (j + 1) % 2 ≡ 0 = omega arith in z) in record {
        holds = λ f small H. rw n (column_holds next keep K w b j inside f small d masks (rw e at H) M W room);
      }

-- ---- eight rows b
pub eight_entries : (limit : ℕ) (next : ℕ → ℕ) (w b out below n : ℕ) (gains : ℕ → ℕ) {vector table new : List ℕ} → limit + w < absent → n ≡ 2 ^ w → ((c : ℕ) → c < 2 ^ w → gains c ≤ w + 1)
    → VectorHolds next w b (λ l. start_number limit w gains (λ c. get_or table (below + b * n + l * 2 ^ w + c) 0)) w vector
    → Ended next w b out vector table new
    → Spread (2 ^ w) out b (2 ^ w) (λ a l. entry_by limit next w gains table below a (b + l)) table new
unfolding entry_by
eight_entries limit next w b out below n gains {vector} {table} {new} fits en most H E =
    let S = E.spread (λ l. start_number limit w gains (λ c. get_or table (below + b * n + l * 2 ^ w + c) 0)) (λ l x. start_most limit w gains (λ c. get_or table (below + b * n + l * 2 ^ w + c) 0) fits most x) H in record {
      long = S.long;
      inside = λ a l la ll.
          S.inside a l la ll
          ∙ ap (λ (p : ℕ). entry_in (held next w (b + l) (start_number limit w gains (λ c. get_or table (p + c) 0)) (w + 2) (4 * a)))
          (let e : below + b * n + l * 2 ^ w ≡ below + (b + l) * 2 ^ w = rw (en, add-mul b l (2 ^ w)) (omega arith) in e);
      left = S.left;
      right = S.right;
      before = S.before;
      after = S.after;
    }

-- ---- what rows earn
pub gain_most : (w : ℕ) (givens : List ℕ) (at c : ℕ) → row_gain w givens at c ≤ w + 1
unfolding row_gain
gain_most w givens at c = keep_most (row_kept w givens at c) (1 + row_worth w givens at c) (w + 1) (omega (arith, row_worth_le w givens at c))
