-- Over a right layer the rules of an entry and of a choice give the right entry and the right row; and what filling entries leaves.
-- Assumes nothing.
use mathlib.Core.Path.{◌≡◌, refl, sym, ◌∙◌, ap, ap₂}
use mathlib.Core.List.{List}
use mathlib.Core.Logic.{⊎_elim}
use Prim.Native.Nat.{ℕ, zero, suc, ◌+◌, ◌*◌, ◌-◌, ◌/◌, ◌%◌, ◌≤◌, ◌<◌}
use native.Mathlib.Nat.{zero-add, mod-lt}
use native.Mathlib.Omega.{arith}
use native.Mathlib.Decide.{dec_lt}
use lib.Arith.{digits_lt, digits_div, digits_mod}
use lib.ListN.{length, get_or, set, length-set}
use lib.Seq.{get_or-set_same, get_or-set_other, ext_get_or}
use Rattle.elimination.specs.Kind.{Kind, worth_of, choose, entry, right_entry}
use Rattle.elimination.specs.Table.{layer_size, reads, right_at, RightLayer, fill_entry, fill_entries, LayerFilled, Apart, LayerIsEntries}
use Rattle.elimination.proofs.Kind.{entry_more, right_entry_more, choose_ext, entry_ext}

module _ {X : Type 0} (G : Kind X) where
  pub right_at_entry : (k j : ℕ) → right_at G k j ≡ right_entry G k (j / G.codes) (j % G.codes)
  unfolding right_at
  right_at_entry k j = refl

  pub fill_entry_set : (k source target j : ℕ) (t : List X)
      → fill_entry G k source target j t ≡ set t (target + j) (entry G k (j / G.codes) (j % G.codes) (reads G t source (j % G.codes)))
  unfolding fill_entry
  fill_entry_set k source target j t = refl

  module _ (t : List X) (source k : ℕ) (R : RightLayer G t source k) where
    pub reads_right : (b c : ℕ) → b < G.codes → c < G.codes → reads G t source b c ≡ right_entry G k b c
    unfolding reads right_at
    reads_right b c hb hc = R (b * G.codes + c) (digits_lt hb hc) ∙ ap₂ (λ (x y : ℕ). right_entry G k x y) (digits_div b hc) (digits_mod b hc)

    pub choose_right : (a b : ℕ) → b < G.codes → choose G k a b (reads G t source b) ≡ choose G k a b (right_entry G k b)
    choose_right a b hb = choose_ext G k a b (reads G t source b) (right_entry G k b) (λ c hc. reads_right b c hb hc)

    pub entry_right : (a b : ℕ) → b < G.codes → entry G (suc k) a b (reads G t source b) ≡ right_entry G (suc k) a b
    entry_right a b hb =
        entry_more G k a b (reads G t source b) ∙ ap (worth_of G.absent) (choose_right a b hb) ∙ sym (right_entry_more G k a b ∙ entry_more G k a b (right_entry G k b))

  -- ---- entries one after the other
  module _ (k source target j : ℕ) (t : List X) where
    pub fill_none : fill_entries G k source target j 0 t ≡ t
    unfolding fill_entries
    fill_none = refl

    pub fill_more : (n : ℕ) → fill_entries G k source target j (suc n) t ≡ fill_entry G k source target (j + n) (fill_entries G k source target j n t)
    unfolding fill_entries
    fill_more n = refl

    -- one entry after n of them
    pub fill_next : (n : ℕ) {now new : List X} → now ≡ fill_entries G k source target j n t → new ≡ fill_entry G k source target (j + n) now
        → new ≡ fill_entries G k source target j (n + 1) t
    fill_next n e f =
        let m : suc n ≡ n + 1 = omega arith in
        f ∙ ap (fill_entry G k source target (j + n)) e ∙ sym (fill_more n) ∙ ap (λ (i : ℕ). fill_entries G k source target j i t) m

    pub fill_length : (n : ℕ) → length (fill_entries G k source target j n t) ≡ length t
    fill_length zero = ap length fill_none
    fill_length (suc n) =
        let f = fill_entries G k source target j n t in
        ap length (fill_more n ∙ fill_entry_set k source target (j + n) f) ∙ length-set f (target + (j + n)) _ ∙ fill_length n

  -- ---- a layer at once
  module _ (k source target : ℕ) (old : List X) (apart : Apart (layer_size G) source target) (room : target + layer_size G ≤ length old) where
    abbrev z : X
    z = G.start

    -- what entry j has to be
    abbrev number : ℕ → X
    number j = entry G k (j / G.codes) (j % G.codes) (reads G old source (j % G.codes))

    -- the first n entries are filled, and nothing else has changed
    record Run (n : ℕ) (t : List X) : Type 0 where
      long : length t ≡ length old
      inside : (i : ℕ) → i < n → get_or t (target + i) z ≡ number i
      before : (p : ℕ) → p < target → get_or t p z ≡ get_or old p z
      after : (p : ℕ) → target + n ≤ p → get_or t p z ≡ get_or old p z

    -- the layer that is read is as it was
    read_same : (n : ℕ) (t : List X) → n < layer_size G → Run n t → (b c : ℕ) → b < G.codes → c < G.codes → reads G t source b c ≡ reads G old source b c
    unfolding reads
    read_same n t l R b c lb lc =
        let i = b * G.codes + c in
        let li : i < layer_size G = digits_lt lb lc in
        ⊎_elim (λ (a : source + layer_size G ≤ target). R.before (source + i) (omega arith)) (λ (a : target + layer_size G ≤ source). R.after (source + i) (omega arith)) apart

    run : (n : ℕ) → n ≤ layer_size G → Run n (fill_entries G k source target 0 n old)
    run zero l =
        rw (fill_none k source target 0 old)
        record { long = refl; inside = λ i h. absurd (omega arith); before = λ p h. refl; after = λ p h. refl }
    run (suc n) l =
        let t = fill_entries G k source target 0 n old in
        let R = run n (omega arith) in
        let v = entry G k (n / G.codes) (n % G.codes) (reads G t source (n % G.codes)) in
        let some : 0 < G.codes = codes_some G.codes l in
        let e : v ≡ number n =
        entry_ext G k (n / G.codes) (n % G.codes) (reads G t source (n % G.codes)) (reads G old source (n % G.codes))
        (λ c lc. read_same n t l R (n % G.codes) c (mod-lt n some) lc) in
        let is : fill_entries G k source target 0 (suc n) old ≡ set t (target + n) v =
        fill_more k source target 0 old n ∙ ap (λ (i : ℕ). fill_entry G k source target i t) (zero-add n) ∙ fill_entry_set k source target n t in
        let inside : target + n < length t = omega (arith, R.long) in
        rw is
        record {
          long = length-set t (target + n) v ∙ R.long;
          inside = λ i h.
              elim (dec_lt i n) [
                | yes x ↦ get_or-set_other t (target + n) (target + i) v z (λ y. omega arith) ∙ R.inside i x
                | no x ↦ let same : i ≡ n = omega arith in rw same (get_or-set_same t (target + n) v z inside ∙ e)
              ];
          before = λ p h. get_or-set_other t (target + n) p v z (λ y. omega arith) ∙ R.before p h;
          after = λ p h. get_or-set_other t (target + n) p v z (λ y. omega arith) ∙ R.after p (omega arith);
        }
      where
        codes_some : (m : ℕ) → n < m * m → 0 < m
        codes_some zero h = absurd (omega arith)
        codes_some (suc m) h = omega arith

    layer_entries : (new : List X) → LayerFilled G k source target old new → new ≡ fill_entries G k source target 0 (layer_size G) old
    layer_entries new F =
        let q = layer_size G in
        let t = fill_entries G k source target 0 q old in
        let R = run q (omega arith) in
        ext_get_or z new t (F.long ∙ sym R.long) λ i l.
        elim (dec_lt i target) [
          | yes x ↦ F.before i x ∙ sym (R.before i x)
          | no x ↦
              elim (dec_lt i (target + q)) [
                | yes y ↦
                    let e : target + (i - target) ≡ i = omega arith in
                    let f = F.inside (i - target) (omega arith) ∙ sym (R.inside (i - target) (omega arith)) in
                    rw e at f
                | no y ↦ F.after i (omega arith) ∙ sym (R.after i (omega arith))
              ]
        ]

  pub layer_is_entries : LayerIsEntries G
  layer_is_entries k source target old new apart room F = layer_entries k source target old apart room new F
