-- The greatest number of the rows that agree is the rule's entry.
-- Assumes nothing.
use mathlib.Core.Path.{◌≡◌, refl, ◌∙◌, sym, ap}
use mathlib.Core.Bool.{Bool, true, false, cond, ◌&&◌}
use mathlib.Core.List.{List}
use Rattle.std.specs.Prelude.{Option, None, Some}
use Prim.Native.Nat.{ℕ, zero, suc, ◌+◌, ◌*◌, ◌-◌, ◌^◌, ◌<◌, ◌≤◌}
use native.Mathlib.Omega.{arith}
use native.Mathlib.Decide.{dec_lt}
use lib.Dec.{ltb, leb, eqb}
use borrow.Author.Tests.{lt-ltb, le-ltb, ne_eqb}
use Rattle.elimination.specs.Candidates.{Choice, nothing, chosen, settle_tie, scan, against, consider}
use Rattle.elimination.specs.Kind.{Kind, offer, offer_if, offer_counted, entry, worth_of}
use Rattle.elimination.proofs.Candidates.{scan_none, scan_more}
use Rattle.elimination.proofs.Kind.{entry_more, choose_scan}
use Rattle.life.specs.Rows.{agree}
use Rattle.score_table.specs.Rows.{row_worth, row_kept, row_gain}
use Rattle.score_table.specs.ScoreTable.{absent, kind_for}
use Rattle.score_table.specs.declared.Want.{Want}
use Rattle.score_table.proofs.WholeRows.{plain, plain_is}
use Rattle.column_elimination.specs.Columns.{larger, greatest, keep_if, scored, start_number, entry_in, GreatestIsEntry}
use Rattle.column_elimination.proofs.Greatest.{larger_none}

-- a choice, and an offer, as one more than the worth; 0 for none
abbrev count : Choice ℕ → ℕ
count nothing = 0
count (chosen c v) = suc v

abbrev counted : Option ℕ → ℕ
counted None = 0
counted (Some v) = suc v

entry_count : (o : Choice ℕ) → entry_in (count o) ≡ worth_of absent o
unfolding entry_in
entry_count nothing = refl
entry_count (chosen c v) = let e : suc v - 1 ≡ v = omega arith in rw (ne_eqb (suc v) 0 (λ z. omega arith), e)

module _ (want : Want) (next : ℕ → ℕ) (w h : ℕ) (givens : List ℕ) (k a b : ℕ) (read : ℕ → ℕ) (most : want.least ≡ false) where
  abbrev G : Kind ℕ
  G = kind_for (plain want) next w h givens

  abbrev at : ℕ
  at = (h - suc k) * w

  abbrev number : ℕ → ℕ
  number c = keep_if (agree next w a b c) (start_number want.limit w (row_gain w givens at) read c)

  -- what a row offers
  offered : (c : ℕ) → c < 2 ^ w → counted (offer G k a b read c) ≡ number c
  unfolding start_number scored row_gain
  offered c l = rw (lt-ltb c (2 ^ w) l) (go (agree next w a b c) (row_kept w givens at c))
    where
      read_in : (t : Bool) → counted (offer_counted t (row_worth w givens at c + read c)) ≡ cond t (1 + row_worth w givens at c + read c) 0
      read_in true = omega arith
      read_in false = refl

      go : (p q : Bool) → counted (offer_if G (p && q) k read c) ≡ keep_if p (cond (eqb (keep_if q (1 + row_worth w givens at c)) 0) 0 (cond (leb (read c) want.limit) (keep_if q (1 + row_worth w givens at c) + read c) 0))
      go false q = refl
      go true false = refl
      go true true = rw (ne_eqb (1 + row_worth w givens at c) 0 (λ z. omega arith)) (read_in (leb (read c) want.limit))

  -- the candidate m, after the choice so far
  considered : (m : ℕ) (o : Option ℕ) (held : Choice ℕ) → count (consider G.comparison m o held) ≡ larger (count held) (counted o)
  considered m None held = sym (larger_none (count held))
  considered m (Some x) nothing = sym (rw (lt-ltb 0 (suc x) (omega arith)))
  considered m (Some x) (chosen c y) =
      rw most
      (elim (dec_lt y x) [
        | yes l ↦ rw (lt-ltb y x l, lt-ltb (suc y) (suc x) (omega arith))
        | no l ↦ rw (le-ltb y x (omega arith), le-ltb (suc y) (suc x) (omega arith)) (stays (ltb x y))
      ])
    where
      tied : (g : Bool) → count (settle_tie g m c y) ≡ suc y
      tied true = refl
      tied false = refl

      stays : (t : Bool) → count (against G.comparison false t m x c y) ≡ suc y
      stays true = refl
      stays false = tied want.greater_first

  scanned : (m : ℕ) → m ≤ 2 ^ w → count (scan G.comparison (offer G k a b read) m) ≡ greatest number m
  unfolding greatest
  scanned zero l = rw (scan_none G.comparison (offer G k a b read))
  scanned (suc m) l =
      rw (scan_more G.comparison (offer G k a b read) m)
      (considered m (offer G k a b read m) (scan G.comparison (offer G k a b read) m) ∙ rw (scanned m (omega arith), offered m (omega arith)))

  entry_greatest : entry_in (greatest number (2 ^ w)) ≡ entry G (suc k) a b read
  entry_greatest =
      ap entry_in (sym (scanned (2 ^ w) (omega arith)))
      ∙ entry_count (scan G.comparison (offer G k a b read) (2 ^ w))
      ∙ sym (entry_more G k a b read ∙ ap (worth_of absent) (choose_scan G k a b read))

pub greatest_is_entry : GreatestIsEntry
greatest_is_entry want next w h givens k a b read most digits stays =
    entry_greatest want next w h givens k a b read most ∙ ap (λ (u : Want). entry (kind_for u next w h givens) (suc k) a b read) (plain_is want digits stays)
