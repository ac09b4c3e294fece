-- Laws of the cells of rows filled to a width: of one row, and of many.
-- Assumes nothing.
use mathlib.Core.Path.{◌≡◌, refl, sym, ◌∙◌}
use mathlib.Core.List.{List, [], ◌∷◌, ◌++◌, flat_map, append_assoc}
use Prim.Native.Nat.{ℕ, ◌+◌, ◌*◌, ◌-◌, ◌≤◌}
use native.Mathlib.Nat.{mul-suc, mul-zero}
use native.Mathlib.Omega.{arith}
use borrow.Rule.Slice.PartMut.{put_mid}
use lib.ListN.{length, take, drop, replicate, length-append, length-drop, length-replicate}
use lib.Seq.{drop-drop, take_at, drop_at, length-take-le}
use Rattle.writer.proofs.Over.{over, over_all}
use Rattle.plaintext.specs.Reading.{filled, width_of, cells_of}

-- ---- a row's cells
pub filled_long : (w : ℕ) (r : List ℕ) → length r ≤ w → length (filled w r) ≡ w
unfolding filled
filled_long w r h = rw (length-append, length-replicate {A = ℕ} (w - length r) 0) (omega arith)

-- a row of n cells written over others, and then dead cells up to the width
pub filled_over : (w n : ℕ) (r old cells part : List ℕ) → length r ≡ n → n ≤ w → w ≤ length old → cells ≡ over r n old
    → part ≡ replicate (length (take (w - n) (drop n cells))) 0 → put_mid n (w - n) cells part ≡ filled w r ++ drop w old
unfolding filled
filled_over w n r old cells part e l m c p =
    let q : cells ≡ r ++ drop n old = c ∙ over_all r old n (omega arith) in
    let back : drop n cells ≡ drop n old = rw q (drop_at r (drop n old) n e) in
    let long : length (take (w - n) (drop n old)) ≡ w - n = length-take-le (w - n) (drop n old) (rw (length-drop n old) (omega arith)) in
    let whole : n + (w - n) ≡ w = omega arith in
    rw (p, back, long, q, take_at r (drop n old) n e, drop-drop (w - n) n old, whole, e) (sym (append_assoc r (replicate (w - n) 0) (drop w old)))

-- ---- many rows
-- the cells of rows that are no longer than w
pub cells_more : (w : ℕ) (r : List ℕ) (rs : List (List ℕ)) → cells_of w (r ∷ rs) ≡ filled w r ++ cells_of w rs
unfolding cells_of flat_map
cells_more w r rs = refl

pub cells_long : (w : ℕ) (rs : List (List ℕ)) → width_of rs ≤ w → length (cells_of w rs) ≡ w * length rs
unfolding cells_of flat_map width_of
cells_long w [] h = sym (mul-zero w)
cells_long w (r ∷ rs) h =
    rw (length-append, filled_long w r (omega arith), cells_long w rs (omega arith), mul-suc w (length rs)) (omega arith)
