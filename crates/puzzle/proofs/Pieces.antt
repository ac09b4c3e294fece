-- Laws of what is printed: a number's digits, and pieces written one after the other.
-- Assumes nothing.
use mathlib.Core.Path.{◌≡◌, refl, sym, ◌∙◌}
use mathlib.Core.Bool.{Bool, true, false}
use mathlib.Core.List.{List, [], ◌∷◌, ◌++◌, flat_map, append-nil}
use Prim.Native.Nat.{ℕ, zero, suc, ◌+◌, ◌-◌, ◌/◌, ◌^◌, ◌<◌, ◌≤◌}
use native.Mathlib.Numerals.{add-one}
use native.Mathlib.Omega.{arith}
use borrow.Author.Tests.{ltb-true, ltb-false}
use borrow.Rule.Slice.PartMut.{put_mid}
use lib.Dec.{ltb}
use lib.ListN.{length, get_or, set, take, drop, length-append, length-drop}
use lib.Seq.{take_at, drop_at, set_at, drop-cons, append_snoc}
use Rattle.std.specs.Fmt.{decimal as std_decimal}
use Rattle.std.proofs.lemmas.Fmt.{decimal_digit, decimal_step, length-decimal-le}
use Rattle.writer.proofs.Over.{over, over_all, rest_whole, lent_block}
use Rattle.writer.specs.Letters.{LF}
use Rattle.writer.specs.Writing.{board_rows, row_text, board_text}
use Rattle.puzzle.specs.Printing.{digits, decimal, line, Examples, Prints}

pub examples : Examples
unfolding digits board_text board_rows row_text flat_map
examples = (refl, refl, refl, refl)

-- ---- a number's digits: std's
digits_std : (k n : ℕ) → n ≤ k → n < 2 ^ 64 → digits k n ≡ std_decimal n
unfolding digits
digits_std zero n l s = rw (decimal_digit n (omega arith)) (grind arith)
digits_std (suc k) n l s = go (ltb n 10) refl (digits_std k (n / 10) (omega arith) (omega arith))
  where
    go : (t : Bool) → ltb n 10 ≡ t → digits k (n / 10) ≡ std_decimal (n / 10) → digits (suc k) n ≡ std_decimal n
    go true e front = let m = ltb-true n 10 e in rw (e, decimal_digit n m) (grind arith)
    go false e front = let m = ltb-false n 10 e in rw (e, decimal_step n m s, front)

pub decimal_std : (n : ℕ) → n < 2 ^ 64 → decimal n ≡ std_decimal n
decimal_std n s = digits_std n n (omega arith) s

pub std_short : (n : ℕ) → n < 1000 → length (std_decimal n) ≤ 3
std_short n l = length-decimal-le 3 n (omega arith) l (omega arith)

pub decimal_short : (n : ℕ) → n < 1000 → length (decimal n) ≤ 3
decimal_short n l = rw (decimal_std n (omega arith)) (std_short n l)

pub line_short : (words : List ℕ) (n : ℕ) → n < 1000 → length (line words n) ≤ length words + 4
line_short words n l = rw (length-append (words ++ decimal n) (LF ∷ []), length-append words (decimal n)) (let s = decimal_short n l in omega arith)

-- ---- pieces one after the other
-- a text that is printed, and then one byte more
pub prints_byte : {text output output' : List ℕ} {k : ℕ} (b : ℕ) → Prints text output k output' → k < length output
    → Prints (text ++ (b ∷ [])) output (k + 1) (set output' k b)
prints_byte {text} {output} {output'} {k} b P r = record {
  count = rw (length-append text (b ∷ []), P.count);
  bytes =
      rw (P.bytes, add-one k, drop-cons output k 0 r, append_snoc text b (drop (suc k) output))
      (set_at text (get_or output k 0) (drop (suc k) output) b k (sym P.count));
}

-- and then a text that is printed into the rest of the output, lent from there on
pub prints_more : {text more output output' part : List ℕ} {k n : ℕ} → Prints text output k output'
    → Prints more (take (length output' - k) (drop k output')) n part
    → Prints (text ++ more) output (k + n) (put_mid k (length output' - k) output' part)
prints_more {text} {more} {output} {output'} {part} {k} {n} P Q =
    let split : drop k (text ++ more) ≡ more ++ [] = drop_at text more k (sym P.count) ∙ sym (append-nil more) in
    let held : output' ≡ over (text ++ more) k output = rw (take_at text more k (sym P.count)) P.bytes in
    let long : length (text ++ more) ≡ k + n = rw (length-append text more, P.count, Q.count) refl in
    record {
      count = sym long;
      bytes =
          lent_block (text ++ more) more [] k n split (sym Q.count) output output' part (omega arith) held Q.bytes
          ∙ over_all (text ++ more) output (k + n) (omega arith);
    }

pub rest_long : (k : ℕ) (l : List ℕ) → length (take (length l - k) (drop k l)) ≡ length l - k
rest_long k l = rw (rest_whole k l) (length-drop k l)

-- what is printed into a buffer of its length lies inside it
pub prints_inside : {text output output' : List ℕ} {n : ℕ} → Prints text output n output' → length output' ≡ length output → n ≤ length output
prints_inside {text} {output} {output'} {n} P e =
    let l : length output' ≡ length text + length (drop n output) = rw P.bytes (length-append text (drop n output)) in
    let d = length-drop n output in
    let c = P.count in
    omega arith
