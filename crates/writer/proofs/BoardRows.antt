-- Laws of the rows of a board: their text, and the lengths of both.
-- Assumes nothing.
use mathlib.Core.Path.{◌≡◌, refl, sym, ap, ◌∙◌}
use mathlib.Core.Logic.{⊎_elim}
use mathlib.Core.List.{List, [], ◌∷◌, ◌++◌, map, flat_map}
use Prim.Native.Nat.{ℕ, zero, suc, ◌+◌, ◌*◌, ◌-◌, ◌<◌, ◌≤◌}
use native.Mathlib.Nat.{not-suc-le-zero, le_of_suc-le-suc, eq-or-lt_of_le, lt_of_mul-lt-mul_right, mul-suc, suc-mul, zero-mul, mul_comm, sub-zero}
use native.Mathlib.Numerals.{add-one}
use native.Mathlib.Omega.{arith}
use borrow.Rule.Slice.PartMut.{put_mid}
use lib.ListN.{length, get_or, take, drop, length-append, length-map, length-drop, get_or-append}
use lib.Seq.{drop-drop, take_at, drop_at, get_or-append_seam, length-take-le}
use Rattle.board.proofs.Powers.{block_room}
use Rattle.writer.specs.Letters.{LF, letter_of}
use Rattle.writer.specs.Writing.{board_rows, row_text, board_text, text_length}
use Rattle.writer.specs.Theorems.{TextHasLength}
use Rattle.writer.proofs.Over.{over, lent_block}

map_at : (f : ℕ → ℕ) (l : List ℕ) (k : ℕ) → k < length l → get_or (map f l) k 0 ≡ f (get_or l k 0)
map_at f [] k h = absurd (not-suc-le-zero h)
map_at f (x ∷ l) zero h = refl
map_at f (x ∷ l) (suc k) h = map_at f l k (le_of_suc-le-suc h)

-- ---- a row's text
pub text_long : (r : List ℕ) → length (row_text r) ≡ length r + 1
unfolding row_text
text_long r = rw (length-append, length-map r letter_of)

pub text_letter : (r : List ℕ) (k : ℕ) → k < length r → get_or (row_text r) k 0 ≡ letter_of (get_or r k 0)
unfolding row_text
text_letter r k h =
    let g : k < length (map letter_of r) = rw (length-map r letter_of) h in
    rw (get_or-append (map letter_of r) (LF ∷ []) 0 k g) (map_at letter_of r k h)

pub text_end : (r : List ℕ) → get_or (row_text r) (length r) 0 ≡ LF
unfolding row_text
text_end r = rw (← length-map r letter_of) (get_or-append_seam (map letter_of r) LF [] 0)

-- ---- the rows of a board of width w, and their text
module _ (w : ℕ) where
  pub rest_long : (h : ℕ) (b : List ℕ) → length b ≡ w * suc h → (w ≤ length b) × (length (drop w b) ≡ w * h)
  rest_long h b e = let m = mul-suc w h in (omega arith, length-drop w b ∙ (let k : length b - w ≡ w * h = omega arith in k))

  pub board_text_long : (h : ℕ) (b : List ℕ) → length b ≡ w * h → length (board_text w h b) ≡ text_length w h
  unfolding board_text board_rows flat_map
  board_text_long zero b e = sym (zero-mul (w + 1))
  board_text_long (suc h) b e =
      let s = rest_long h b e in
      rw (length-append, text_long (take w b), length-take-le w b s.0, board_text_long h (drop w b) s.1, suc-mul h (w + 1)) (omega arith)

  module _ (h : ℕ) (b : List ℕ) (long : length b ≡ w * h) where
    -- row j is whole
    row_long : (j : ℕ) → j < h → length (take w (drop (j * w) b)) ≡ w
    row_long j l =
        let r : j * w + w ≤ w * h = rw (mul_comm w h) (block_room j h w l) in
        length-take-le w (drop (j * w) b) (rw (length-drop (j * w) b) (omega arith))

    -- where fewer cells than a row are left after j rows, they are all
    pub rows_all : (j : ℕ) → j ≤ h → length (drop (j * w) b) < w → j ≡ h
    rows_all j m s =
        ⊎_elim
        (λ (e : j ≡ h). e)
        (λ (l : j < h). let r : j * w + w ≤ w * h = rw (mul_comm w h) (block_room j h w l) in absurd (omega (arith, length-drop (j * w) b)))
        (eq-or-lt_of_le m)

    -- the text of the rows from j on
    rows_more : (c : List ℕ) (j : ℕ) → j < h → board_text w (h - j) c ≡ row_text (take w c) ++ board_text w (h - suc j) (drop w c)
    unfolding board_text board_rows flat_map
    rows_more c j l = let q : h - j ≡ suc (h - suc j) = omega arith in rw q

    text_from : (j : ℕ) → j ≤ h → drop (j * (w + 1)) (board_text w h b) ≡ board_text w (h - j) (drop (j * w) b)
    text_from zero l = rw (zero-mul (w + 1), zero-mul w, sub-zero h)
    text_from (suc j) l =
        let x = drop (j * w) b in
        let n : length (row_text (take w x)) ≡ w + 1 = text_long (take w x) ∙ ap (λ (k : ℕ). k + 1) (row_long j l) in
        let r : drop w x ≡ drop (suc j * w) b = drop-drop w (j * w) b ∙ ap (λ (k : ℕ). drop k b) (sym (suc-mul j w)) in
        rw (suc-mul j (w + 1), ← drop-drop (w + 1) (j * (w + 1)) (board_text w h b), text_from j (omega arith), rows_more x j l, ← r)
        (drop_at (row_text (take w x)) (board_text w (h - suc j) (drop w x)) (w + 1) n)

    -- the next w cells after j rows are row j
    module _ (j : ℕ) (row rest : List ℕ) (some : 1 ≤ w) (cut : drop (j * w) b ≡ row ++ rest) (wide : length row ≡ w) where
      pub row_next : suc j ≤ h
      row_next =
          let n : length (row ++ rest) ≡ w * h - j * w = rw (← cut, length-drop (j * w) b) (omega arith) in
          let m : j * w < h * w = rw (mul_comm h w) (omega (arith, length-append row rest)) in
          lt_of_mul-lt-mul_right w m

      pub rows_rest : rest ≡ drop ((j + 1) * w) b
      rows_rest = rw (add-one j, suc-mul j w, ← drop-drop w (j * w) b, cut) (sym (drop_at row rest w wide))

      -- its text, written at the start of what is lent from its place on, follows the text of the rows before it
      pub row_written : (old text part : List ℕ) → text ≡ over (board_text w h b) (j * (w + 1)) old
          → part ≡ row_text row ++ drop (length row + 1) (take (length text - j * (w + 1)) (drop (j * (w + 1)) text))
          → put_mid (j * (w + 1)) (length text - j * (w + 1)) text part ≡ over (board_text w h b) ((j + 1) * (w + 1)) old
      row_written old text part et ep =
          let k = j * (w + 1) in
          let x = drop (j * w) b in
          let q : take w x ≡ row = rw cut (take_at row rest w wide) in
          let m : length (row_text row) ≡ w + 1 = text_long row ∙ ap (λ (i : ℕ). i + 1) wide in
          let r : k ≤ length (board_text w h b) = rw (board_text_long h b long) (let i = block_room j h (w + 1) row_next in omega arith) in
          let s = rw q at (text_from j (omega (arith, row_next)) ∙ rows_more x j row_next) in
          rw (add-one j, suc-mul j (w + 1))
          (lent_block (board_text w h b) (row_text row) (board_text w (h - suc j) (drop w x)) k (w + 1) s m old text part r et (rw wide at ep))

pub text_has_length : TextHasLength
text_has_length = board_text_long
