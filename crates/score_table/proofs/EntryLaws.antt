-- What the best row and the last layer come to: the rule's entry and the rule's choice.
-- Assumes nothing.
use mathlib.Core.Path.{◌≡◌, refl, ◌∙◌, sym, ap, fun_ext}
use mathlib.Core.Bool.{Bool, true, false, cond, ◌&&◌}
use mathlib.Core.List.{List}
use Rattle.std.specs.Prelude.{Option}
use Prim.Native.Nat.{ℕ, zero, suc, ◌+◌, ◌*◌, ◌-◌, ◌/◌, ◌%◌, ◌^◌, ◌<◌, ◌≤◌}
use native.Mathlib.Nat.{mul-le-mul, mul-le-mul_right, div-lt_iff_lt-mul, mod-lt}
use native.Mathlib.Omega.{arith}
use borrow.Author.Tests.{leb-true}
use lib.ListN.{length, get_or}
use lib.Pow.{pow_pos}
use Rattle.board.specs.Boards.{max_height, max_mirror_width, Width}
use Rattle.board.proofs.Widths.{width_le}
use Rattle.elimination.specs.Candidates.{scan}
use Rattle.elimination.specs.Kind.{Kind, offer_if, choose, entry, worth_of}
use Rattle.elimination.specs.Table.{reads}
use Rattle.elimination.proofs.Kind.{entry_last, entry_more}
use Rattle.life.specs.Rows.{steps_to}
use Rattle.score_table.specs.Rows.{row_kept, marks_of, target_row, digits_of, row_for}
use Rattle.score_table.specs.ScoreTable.{absent, kind_for, reads_from}
use Rattle.score_table.specs.Inner.{choice_of, compared, kind_by, Found, entry_over}
use Rattle.score_table.specs.Calls.{call_fits, layer_fits}
use Rattle.score_table.proofs.Calls.{call_memory}
use Rattle.score_table.specs.declared.Want.{Want}
use Rattle.score_table.specs.declared.best.Best.{Best}
use Rattle.board.proofs.Powers.{four_two}

-- ---- a row's givens and its layer
-- the choice goes by the place of the givens alone, and by what the middle row has to become
choose_here : (want : Want) (next : ℕ → ℕ) (w h : ℕ) (givens : List ℕ) (k a b : ℕ) (read : ℕ → ℕ)
    → choose (kind_for want next w h givens) k a b read
    ≡ choose (kind_by want next w (target_row want.predecessor w givens (h - suc k) (row_for want w b)) givens ((h - suc k) * w)) 0 a b read
unfolding choose
choose_here want next w h givens k a b read =
    let t = target_row want.predecessor w givens (h - suc k) (row_for want w b) in
    ap (λ (f : ℕ → Option ℕ). scan (compared want) f (2 ^ digits_of want w))
    (fun_ext λ c. go (steps_to next w (row_for want w a) (row_for want w b) (row_for want w c) t && row_kept w (marks_of want.predecessor givens) ((h - suc k) * w) (row_for want w c)) c)
  where
    go : (s : Bool) (c : ℕ)
        → offer_if (kind_for want next w h givens) s k read c
        ≡ offer_if (kind_by want next w (target_row want.predecessor w givens (h - suc k) (row_for want w b)) givens ((h - suc k) * w)) s 0 read c
    go true c = refl
    go false c = refl

choose_at_lem : (want : Want) (next : ℕ → ℕ) (w h : ℕ) (givens : List ℕ) (k a b : ℕ) (read : ℕ → ℕ) {r : ℕ} → h - suc k ≡ r
    → choose (kind_for want next w h givens) k a b read
    ≡ choose (kind_by want next w (target_row want.predecessor w givens r (row_for want w b)) givens (r * w)) 0 a b read
choose_at_lem want next w h givens k a b read e =
    choose_here want next w h givens k a b read
    ∙ ap (λ (x : ℕ). choose (kind_by want next w (target_row want.predecessor w givens x (row_for want w b)) givens (x * w)) 0 a b read) e

-- the numbers read for the rows below b are those from the place of its part of the layer on
reads_from_lem : (want : Want) (next : ℕ → ℕ) (w h : ℕ) (givens table : List ℕ) (source b first : ℕ) → first ≡ source + b * 2 ^ digits_of want w
    → reads (kind_for want next w h givens) table source b ≡ reads_from table first
unfolding reads
reads_from_lem want next w h givens table source b first e = fun_ext λ c. ap (λ (p : ℕ). get_or table p 0) (omega arith)

module _ (want : Want) (next : ℕ → ℕ) (w h : ℕ) (givens table : List ℕ) (r source a b first t : ℕ) (start : first ≡ source + b * 2 ^ digits_of want w)
    (becomes : t ≡ target_row want.predecessor w givens r (row_for want w b)) (o : Option Best) (F : Found want w o (choose (kind_by want next w t givens (r * w)) 0 a b (reads_from table first))) where
  abbrev K : Kind ℕ
  K = kind_for want next w h givens

  -- what the search found is the choice with k rows after it
  found_choice : (k : ℕ) → h - suc k ≡ r → choice_of o ≡ choose K k a b (reads K table source b)
  found_choice k e =
      F.is ∙ rw (becomes, reads_from_lem want next w h givens table source b first start) (sym (choose_at_lem want next w h givens k a b (reads_from table first) e))

  -- choosing a row
  pub found_row : r < h → choice_of o ≡ choose K (h - suc r) a b (reads K table source b)
  found_row inside = found_choice (h - suc r) (omega arith)

  -- an entry of a layer above the last
  pub found_entry : (k : ℕ) → (k ≡ 0 → ⊥) → h - k ≡ r → worth_of absent (choice_of o) ≡ entry K k a b (reads K table source b)
  found_entry zero z e = absurd (z refl)
  found_entry (suc k) z e = ap (worth_of absent) (found_choice k e) ∙ sym (entry_more K k a b (reads K table source b))

-- ---- room
-- the w cells of a row, and the entries of a row of a layer, one for each number of so many binary digits
pub row_room : (w h r : ℕ) → r < h → r * w + w ≤ w * h
row_room w h r l = omega (arith, mul-le-mul_right w l)

pub layer_room : (bits source b n m : ℕ) → n ≡ 2 ^ bits → b < 2 ^ bits → source + 4 ^ bits ≤ m → source + b * n + 2 ^ bits ≤ m
layer_room bits source b n m en l f =
    let x : (b + 1) * 2 ^ bits ≤ 2 ^ bits * 2 ^ bits = mul-le-mul_right (2 ^ bits) (omega arith) in
    rw en (omega (arith, four_two bits))

-- ---- entry j of a layer: its rows a and b, and its number
module _ (bits j n : ℕ) (en : n ≡ 2 ^ bits) where
  pub row_a_lt : j < 4 ^ bits → j / n < 2 ^ bits
  row_a_lt l = rw en ((div-lt_iff_lt-mul (pow_pos bits)).1 (rw (four_two bits) at l))

  pub row_b_lt : j % n < 2 ^ bits
  row_b_lt = rw en (mod-lt j (pow_pos bits))

-- row b has to become t
module _ (want : Want) (w j n : ℕ) (en : n ≡ 2 ^ digits_of want w) (next : ℕ → ℕ) (h k source : ℕ) (givens table : List ℕ) (b t : ℕ)
    (eb : b ≡ row_for want w (j % n)) (et : t ≡ target_row want.predecessor w givens (h - k) b) where
  -- the last layer
  module _ (z : k ≡ 0) (a : ℕ) (ea : a ≡ row_for want w (j / n)) where
    entry_at_last : (s u : Bool) → steps_to next w a b 0 t ≡ s → steps_to next w b 0 0 0 ≡ u → entry_over want next w h k source j givens table ≡ cond (s && u) 0 absent
    entry_at_last s u e f =
        let c = row_for want w (j % 2 ^ digits_of want w) in
        let p : steps_to next w (row_for want w (j / 2 ^ digits_of want w)) c 0 (target_row want.predecessor w givens (h - 0) c) ≡ s = rw (ea, et, eb, en, z) at e in
        let r : steps_to next w c 0 0 0 ≡ u = rw (eb, en) at f in
        rw z (entry_last (kind_for want next w h givens) _ _ _ ∙ rw (p, r))

    pub entry_apart : steps_to next w a b 0 t ≡ false → absent ≡ entry_over want next w h k source j givens table
    entry_apart e = sym (entry_at_last false (steps_to next w b 0 0 0) e refl)

    pub entry_open : steps_to next w a b 0 t ≡ true → steps_to next w b 0 0 0 ≡ false → absent ≡ entry_over want next w h k source j givens table
    entry_open e f = sym (entry_at_last true false e f)

    pub entry_ends : steps_to next w a b 0 t ≡ true → steps_to next w b 0 0 0 ≡ true → 0 ≡ entry_over want next w h k source j givens table
    entry_ends e f = sym (entry_at_last true true e f)

  -- a layer above
  pub entry_best : (k ≡ 0 → ⊥) → (o : Option Best)
      → Found want w o (choose (kind_by want next w t givens ((h - k) * w)) 0 (j / n) (j % n) (reads_from table (source + j % n * n)))
      → worth_of absent (choice_of o) ≡ entry_over want next w h k source j givens table
  entry_best z o F =
      rw en at (found_entry want next w h givens table (h - k) source (j / n) (j % n) (source + j % n * n) t (rw en) (rw eb at et) o F k z refl)

-- ---- what the tests before the choice of a row show: the row is one of the grid, those above it are rows, and its givens and entries are lent
pub record ChoiceLent (want : Want) (w h r source above last n : ℕ) (givens table : List ℕ) : Type 0 where
  pub width : Width want.halves w
  pub wide : w ≤ max_mirror_width
  pub inside : r < h
  pub low : r ≤ max_height
  pub codes : n ≡ 2 ^ digits_of want w
  pub layer : layer_fits (digits_of want w) (length table) source ≡ true
  pub above_lt : above < 2 ^ digits_of want w
  pub last_lt : last < 2 ^ digits_of want w
  pub cells : r * w + w ≤ length givens
  pub few : length givens ≤ max_mirror_width * max_height
  pub entries : source + last * n + 2 ^ digits_of want w ≤ length table

pub choice_lent : (want : Want) (w h r source above last n : ℕ) (givens table : List ℕ) {bits : ℕ} {fits layer : Bool}
    → fits ≡ call_fits want w h givens → fits ≡ true → r < h → bits ≡ digits_of want w → layer ≡ layer_fits bits (length table) source → layer ≡ true
    → n ≡ 2 ^ bits → above < n → last < n → ChoiceLent want w h r source above last n givens table
choice_lent want w h r source above last n givens table e f i b l t c p q =
    let M = call_memory want w h givens (sym e ∙ f) in
    let wide : w ≤ max_mirror_width = width_le want.halves w M.width in
    let codes : n ≡ 2 ^ digits_of want w = rw b at c in
    let layer : layer_fits (digits_of want w) (length table) source ≡ true = rw b at (sym l ∙ t) in
    let last_lt : last < 2 ^ digits_of want w = rw codes at q in
    record {
      width = M.width;
      wide = wide;
      inside = i;
      low = omega (arith, M.low);
      codes = codes;
      layer = layer;
      above_lt = rw codes at p;
      last_lt = last_lt;
      cells = rw M.marks (row_room w h r i);
      few = rw M.marks (mul-le-mul wide M.low);
      entries = layer_room (digits_of want w) source last n (length table) codes last_lt (leb-true (source + 4 ^ digits_of want w) (length table) layer);
    }
