-- Laws of a text's lines: the first line of what stands from a place on, and how it is judged.
-- Assumes nothing.
use mathlib.Core.Path.{◌≡◌, refl, ap, ◌∙◌}
use mathlib.Core.Bool.{Bool, true, false, cond, ◌&&◌, not, not-not}
use mathlib.Core.Logic.{⊎_elim}
use mathlib.Core.List.{List, [], ◌∷◌}
use Prim.Native.Nat.{ℕ, zero, suc, ◌+◌, ◌-◌, ◌<◌, ◌≤◌, suc-le-suc}
use native.Mathlib.Nat.{not-suc-le-zero, le_of_suc-le-suc, zero-lt-suc, eq-or-lt_of_le}
use native.Mathlib.Omega.{arith}
use borrow.Author.Tests.{lt-ltb, le-ltb}
use lib.Dec.{ltb, eqb, leb-zero, leb-suc-suc}
use lib.ListN.{length, get_or, take, drop, length-drop, drop_of_length-le}
use lib.Seq.{drop-drop, take-length, length-take-le}
use Rattle.std.specs.Prelude.{Option, None, Some, unwrap_or}
use Rattle.std.specs.List.{position, position_or_len}
use Rattle.std.proofs.lemmas.List.Sums.{prefix_len-le-length, fails_before_first, passes_at_first}
use Rattle.board.specs.Search.{first_not}
use Rattle.board.proofs.Search.{position_first}
use Rattle.writer.specs.Letters.{LF, is_letter}
use Rattle.writer.proofs.Over.{rest_whole}
use Rattle.plaintext.specs.declared.line.Line as held
use Rattle.plaintext.specs.Lines.{Line, empty_line, in_front, lines_of}
use Rattle.plaintext.specs.Reading.{ends_in_cr, without_cr, letter_at, judge_lines, judged}
use Rattle.plaintext.specs.Scanning.{StartsAt, judged_line}

-- ---- the bytes of a line's row
-- they are the first bytes of the line
pub row_first : (l : Line) → (take (length (without_cr l)) l.bytes ≡ without_cr l) × (length (without_cr l) ≤ length l.bytes)
row_first l = cases (l.ended && ends_in_cr l.bytes)
  where
    cases : (t : Bool) → let r = cond t (take (length l.bytes - 1) l.bytes) l.bytes in (take (length r) l.bytes ≡ r) × (length r ≤ length l.bytes)
    cases true =
        let n = length l.bytes - 1 in
        let e : length (take n l.bytes) ≡ n = length-take-le n l.bytes (omega arith) in
        (ap (λ (k : ℕ). take k l.bytes) e, omega arith)
    cases false = (take-length l.bytes, omega arith)

-- the library's search finds the first that is no letter
pub first_other_is : (row : List ℕ) → position (λ b. not (is_letter b)) row ≡ first_not (letter_at row) (length row)
first_other_is row = position_first _ (letter_at row) row (λ k. rw not-not)

-- ---- the first line
-- a text that isn't empty is the line of its first n bytes, which an LF ends or the end of the text, and the lines after it
cut : (t : List ℕ) (n : ℕ) → 0 < length t → n ≤ length t → ((k : ℕ) → k < n → eqb (get_or t k 0) LF ≡ false) → (n < length t → eqb (get_or t n 0) LF ≡ true)
    → lines_of t ≡ record { bytes = take n t; ended = ltb n (length t) } ∷ lines_of (drop (suc n) t)
unfolding lines_of
cut [] n p h f g = absurd (not-suc-le-zero p)
cut (b ∷ t) zero p h f g = rw (g (zero-lt-suc (length t)), leb-suc-suc 0 (length t), leb-zero (length t))
cut (b ∷ []) (suc zero) p h f g = rw (f 0 (zero-lt-suc 0))
cut (b ∷ []) (suc (suc n)) p h f g = absurd (not-suc-le-zero (le_of_suc-le-suc h))
cut (b ∷ c ∷ t) (suc n) p h f g =
    rw (f 0 (zero-lt-suc n), leb-suc-suc (suc n) (suc (length t)))
    (ap (in_front b) (cut (c ∷ t) n (zero-lt-suc (length t)) (le_of_suc-le-suc h) (λ k l. f (suc k) (suc-le-suc l)) (λ l. g (suc-le-suc l))))

-- no line stands from the end on
pub judged_none : (text : List ℕ) (at : ℕ) → length text ≤ at → judged text at ≡ []
unfolding judged judge_lines lines_of
judged_none text at h = rw (drop_of_length-le text h)

-- there are no more lines than bytes
lines_few : (t : List ℕ) → length (lines_of t) ≤ length t
unfolding lines_of
lines_few [] = omega arith
lines_few (b ∷ t) = go (eqb b LF) (lines_of t) (lines_few t)
  where
    go : (s : Bool) (ls : List Line) → length ls ≤ length t → length (cond s (empty_line ∷ ls) (in_front b ls)) ≤ suc (length t)
    go true ls l = omega arith
    go false [] l = omega arith
    go false (x ∷ ls) l = omega arith

judges_each : (at : ℕ) (ls : List Line) → length (judge_lines at ls) ≡ length ls
unfolding judge_lines
judges_each at [] = refl
judges_each at (l ∷ ls) = ap suc (judges_each (at + length l.bytes + 1) ls)

pub judged_few : (text : List ℕ) (at : ℕ) → length (judged text at) ≤ length text
unfolding judged
judged_few text at = rw judges_each (omega (arith, lines_few (drop at text), length-drop at text))

-- the place of the first LF, or the end
end_of : (t : List ℕ) → unwrap_or (position (λ b. eqb b LF) t) (length t) ≡ position_or_len (λ b. eqb b LF) t
end_of t = go (position_or_len (λ b. eqb b LF) t) (prefix_len-le-length _ t)
  where
    go : (n : ℕ) → n ≤ length t → unwrap_or (cond (ltb n (length t)) (Some n) None) (length t) ≡ n
    go n l =
        ⊎_elim
        (λ (e : n ≡ length t). rw (e, le-ltb (length t) (length t) (omega arith)))
        (λ (m : n < length t). rw (lt-ltb n (length t) m))
        (eq-or-lt_of_le l)

-- the line at a place has n bytes, where its LF stands or the text ends
module _ (text : List ℕ) (at : ℕ) (inside : at < length text) {lf : Option ℕ} (found : lf ≡ position (λ b. eqb b LF) (take (length text - at) (drop at text)))
    {n : ℕ} (here : n ≡ unwrap_or lf (length (take (length text - at) (drop at text)))) where
  abbrev rest : List ℕ
  rest = drop at text

  -- what is lent from the place on
  lent : take (length text - at) rest ≡ rest
  lent = rest_whole at text

  ends : n ≡ position_or_len (λ b. eqb b LF) rest
  ends = rw (found, lent) at here ∙ end_of rest

  long : length rest ≡ length text - at
  long = length-drop at text

  within : n ≤ length rest
  within = rw ends (prefix_len-le-length _ rest)

  line_fits : at + n ≤ length text
  line_fits = omega (arith, within, long)

  pub line_starts : (l : held.Line) → l.from ≡ at → l.bytes.now ≡ take n (take (length text - at) rest) → l.ended ≡ ltb n (length (take (length text - at) rest))
      → StartsAt text at l
  line_starts l place bytes ended =
      let m : length l.bytes.now ≡ n = rw (bytes, lent) (length-take-le n rest within) in
      let c = cut rest n (omega (arith, long)) within (λ k l. fails_before_first _ rest k 0 (rw ends at l)) (λ l. rw ends (passes_at_first _ rest 0 (rw ends at l))) in
      let d : drop (suc n) rest ≡ drop (at + n + 1) text = drop-drop (suc n) at text ∙ ap (λ (k : ℕ). drop k text) (let q : at + suc n ≡ at + n + 1 = omega arith in q) in
      record { place = place; inside = rw m line_fits; first = rw (m, bytes, ended, lent, c, d) }

-- the line that starts at a place is judged, and then the lines after it
pub judged_next : (text : List ℕ) (at : ℕ) (l : held.Line) → StartsAt text at l → judged text at ≡ judged_line l ∷ judged text (l.from + length l.bytes.now + 1)
unfolding judged judge_lines
judged_next text at l s = rw (s.first, s.place)
