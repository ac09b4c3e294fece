-- Laws of the search for the best row: what a candidate offers, what the loop holds after the candidates below c, and what is found at its end.
-- Assumes nothing.
use mathlib.Core.Path.{◌≡◌, refl, ◌∙◌, sym, ap}
use mathlib.Core.Bool.{Bool, true, false, cond}
use mathlib.Core.List.{List}
use Rattle.std.specs.Prelude.{Option, None, Some}
use Prim.Native.Nat.{ℕ, zero, suc, ◌+◌, ◌-◌, ◌^◌, ◌<◌, ◌≤◌}
use native.Mathlib.Nat.{add-zero}
use native.Mathlib.Numerals.{add-one}
use native.Mathlib.Omega.{arith}
use borrow.Author.Tests.{leb-true}
use lib.Dec.{leb}
use lib.ListN.{get_or}
use Rattle.board.specs.Boards.{Width}
use Rattle.board.specs.Search.{first_not}
use Rattle.board.proofs.Search.{Searched, all_pass, searched, all_of, all_false}
use Rattle.elimination.specs.Candidates.{Choice, nothing, chosen, scan, consider, none_found, best_found}
use Rattle.elimination.specs.Candidates as Candidates
use Rattle.elimination.specs.Kind.{Kind, offer, offer_if, offer_counted, choose}
use Rattle.elimination.proofs.Candidates.{scan_none, scan_more, scan_finds_best}
use Rattle.elimination.proofs.Kind.{offer_some, choose_scan}
use Rattle.elimination.proofs.Order.{tied_refl}
use Rattle.elimination.proofs.Sums.{sum_worse_ordered, tied_equal}
use Rattle.life.specs.Rows.{becomes, steps_to}
use Rattle.score_table.specs.Rows.{row_worth, row_kept, marks_of, digits_of, row_for}
use Rattle.score_table.specs.Inner.{Columns, passes, skip_to, offered, choice_of, compared, kind_by, Found}
use Rattle.score_table.proofs.Columns.{becomes_same, passes_by}
use Rattle.score_table.proofs.WholeRows.{row_lt, rows_same}
use Rattle.score_table.proofs.Skipping.{skipped_same, skip_past}
use Rattle.score_table.proofs.Marks.{row_worth_le}
use Rattle.score_table.specs.declared.Want.{Want}
use Rattle.score_table.specs.declared.best.Best.{Best}

module _ (want : Want) (next : ℕ → ℕ) (w : ℕ) (givens : List ℕ) (at a b t : ℕ) (read : ℕ → ℕ) where
  abbrev pub G : Kind ℕ
  G = kind_by want next w t givens at

  -- the marks that rows go by
  abbrev marks : List ℕ
  marks = marks_of want.predecessor givens

  -- three numbers' rows: whether the middle one becomes t, all of it or in column j
  abbrev steps : ℕ → Bool
  steps x = steps_to next w (row_for want w a) (row_for want w b) (row_for want w x) t

  abbrev pub turns : ℕ → ℕ → Bool
  turns x j = becomes next w (row_for want w a) (row_for want w b) (row_for want w x) t j

  -- what a row offers
  abbrev pub offers : ℕ → Option ℕ
  offers = offer G 0 a b read

  -- ---- what a candidate offers: nothing where it fails in a column, and otherwise what its worth and the number read come to
  offer_apart : (x j : ℕ) → j < w + 2 → turns x j ≡ false → offers x ≡ None
  unfolding steps_to
  offer_apart x j l e = rw (all_false (turns x) (w + 2) j l e)

  offer_stands : (x : ℕ) → steps x ≡ true → offers x ≡ offered want.limit w marks at (row_for want w x) (read x)
  offer_stands x e = rw e (go (row_kept w marks at (row_for want w x)))
    where
      go : (t : Bool) → offer_if G t 0 read x
          ≡ cond t (offer_counted (leb (read x) want.limit) (row_worth w marks at (row_for want w x) + read x)) None
      go true = refl
      go false = refl

  -- ---- what the loop holds: the best of the candidates below c
  pub record Held (c : ℕ) (held : Option Best) : Type 0 where
    pub is : choice_of held ≡ scan (compared want) offers c

  pub held_none : Held 0 None
  held_none = record { is = sym (scan_none (compared want) offers) }

  module _ {c : ℕ} {held : Option Best} (H : Held c held) where
    scan_next : scan (compared want) offers (c + 1) ≡ consider (compared want) c (offers c) (choice_of held)
    scan_next = rw (add-one c, scan_more (compared want) offers c, H.is)

    -- a candidate that offers nothing
    held_pass : offers c ≡ None → Held (c + 1) held
    held_pass e = record { is = sym (rw (scan_next, e)) }

    -- any, by what it offers
    held_next : (r : Option Best) → choice_of r ≡ consider (compared want) c (offers c) (choice_of held) → Held (c + 1) r
    held_next r q = record { is = q ∙ sym scan_next }

  -- a run of candidates that offer nothing
  held_run : {c : ℕ} {held : Option Best} (d : ℕ) → Held c held → ((y : ℕ) → c ≤ y → y < c + d → offers y ≡ None) → Held (c + d) held
  held_run {c} {held} zero H f = rw (add-zero c) H
  held_run {c} {held} (suc d) H f =
      let p : Held (c + d) held = held_run d H (λ y l u. f y l (omega arith)) in
      let q : Held (c + d + 1) held = held_pass p (f (c + d) (omega arith) (omega arith)) in
      let e : c + d + 1 ≡ c + suc d = omega arith in
      rw e at q

  -- ---- a turn of the loop: the columns of a, b and t say of candidate c whether it fails in one, and the next or the one skipped to is tried then
  module _ (width : Width want.halves w) (la : a < 2 ^ digits_of want w) (lb : b < 2 ^ digits_of want w) (lt : t < 2 ^ w) (columns : List ℕ)
      (C : Columns w (row_for want w a) (row_for want w b) t columns) {c : ℕ} (lc : c < 2 ^ digits_of want w) {held : Option Best} (H : Held c held) where
    small_row : (x : ℕ) → x < 2 ^ digits_of want w → row_for want w x < 2 ^ w
    small_row x l = row_lt want.halves w x l

    abbrev test : ℕ → Bool
    test j = passes next w (get_or columns j 0) (row_for want w c) j

    test_turns : (j : ℕ) → j < w + 2 → test j ≡ turns c j
    test_turns j l = passes_by next w (row_for want w a) (row_for want w b) (row_for want w c) t j (small_row a la) (small_row b lb) (small_row c lc) lt l (C.at j l)

    pub held_skip : (j m : ℕ) → j < w + 2 → test j ≡ false → m ≡ skip_to (digits_of want w) c j → m ≤ 2 ^ digits_of want w → Held m held
    held_skip j m l e s u =
        let past : c < m = rw s (skip_past (digits_of want w) c j) in
        let q : c + (m - c) ≡ m = omega arith in
        let failing : (y : ℕ) → c ≤ y → y < c + (m - c) → offers y ≡ None =
        λ y v z.
        let ly : y < 2 ^ digits_of want w = omega arith in
        let skipped : y < skip_to (digits_of want w) c j = rw s at (let zm : y < m = omega arith in zm) in
        let alike = rows_same want.halves w y c j ly lc (skipped_same (digits_of want w) c j y v skipped) in
        offer_apart y j l
        (becomes_same next w (row_for want w a) (row_for want w b) (row_for want w y) (row_for want w c) t j (small_row a la) (small_row b lb) (small_row y ly) (small_row c lc) lt (omega arith) alike
        ∙ sym (test_turns j l)
        ∙ e) in
        rw q at (held_run (m - c) H failing)

    pub held_next_at : (r : Option Best) (read_c : ℕ) → None ≡ first_not test (w + 2) → read_c ≡ read c
        → choice_of r ≡ consider (compared want) c (offered want.limit w marks at (row_for want w c) read_c) (choice_of held) → Held (c + 1) r
    unfolding steps_to
    held_next_at r read_c e q f = held_next H r (rw q at f ∙ ap (λ (o : Option ℕ). consider (compared want) c o (choice_of held)) (sym (offer_stands c stands)))
      where
        passed : (o : Option ℕ) → Searched test (w + 2) o → None ≡ o → (j : ℕ) → j < w + 2 → turns c j ≡ true
        passed None (all_pass h) q j l = sym (test_turns j l) ∙ h j l
        passed (Some i) r q j l = absurd (let z : ◌≡◌ {A = ℕ} 0 1 = cc in omega arith)

        stands : steps c ≡ true
        stands = all_of (turns c) (w + 2) (passed (first_not test (w + 2)) (searched test (w + 2)) e)

  -- ---- the end of the search
  -- a row that is chosen is one, and its number is small
  record Small (c n : ℕ) : Type 0 where
    row_lt : c < 2 ^ digits_of want w
    number_le : n ≤ want.limit + w

  small : (o : Choice ℕ) → Candidates.Found (compared want) offers (2 ^ digits_of want w) o → (c n : ℕ) → o ≡ chosen c n → Small c n
  small nothing (none_found f) c n e = absurd (let z : ◌≡◌ {A = ℕ} 0 1 = cc in omega arith)
  small (chosen r y) (best_found _ _ B) c n e =
      let p : r ≡ c = cc in
      let q : y ≡ n = cc in
      let o = offer_some G 0 a b read r B.worth B.offered in
      record {
        row_lt = rw p at B.inside;
        number_le = omega (arith, tied_equal want.least B.tied, o.worth, row_worth_le w marks at (row_for want w r), leb-true (read r) want.limit o.counted);
      }

  pub found : {c : ℕ} {held : Option Best} → Held c held → c ≡ 2 ^ digits_of want w → Found want w held (choose G 0 a b read)
  found {c} {held} H m = record { is = e ∙ sym (choose_scan G 0 a b read); row_lt = λ best q. (here best q).row_lt; number_le = λ best q. (here best q).number_le }
    where
      e : choice_of held ≡ scan (compared want) offers (2 ^ digits_of want w)
      e = rw m at H.is

      here : (best : Best) → held ≡ Some best → Small best.row best.sum
      here best q =
          small (scan (compared want) offers (2 ^ digits_of want w))
          (scan_finds_best (compared want) (sum_worse_ordered want.least) (λ x y t. tied_refl (sum_worse_ordered want.least) x) offers (2 ^ digits_of want w)) best.row best.sum (sym e ∙ ap choice_of q)
