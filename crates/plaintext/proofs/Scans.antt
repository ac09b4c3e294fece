-- Going through a text line by line: what the lines passed and those left make together, while a text is measured and while its rows are
-- copied.
-- Assumes nothing.
use mathlib.Core.Path.{◌≡◌, refl, sym, ◌∙◌}
use Rattle.std.specs.Prelude.{Option, None, Some, Ok}
use Rattle.std.specs.Borrow.{Bor}
use mathlib.Core.List.{List, [], ◌∷◌, ◌++◌, map}
use Prim.Native.Nat.{ℕ, ◌+◌, ◌*◌, ◌-◌, ◌≤◌, max}
use native.Mathlib.Nat.{mul-suc, mul-zero}
use native.Mathlib.Omega.{arith}
use borrow.Rule.Slice.PartMut.{put_mid}
use lib.ListN.{length, take, drop, length-map}
use Rattle.writer.specs.Letters.{letter_cell}
use Rattle.writer.proofs.Over.{over, over_all, lent_block, block_rest}
use Rattle.std.specs.Ordering.{ord_max, nat_cmp}
use Rattle.std.proofs.lemmas.Grind.{common_steps}
use Rattle.plaintext.specs.Reading.{Judged, comment, row, bad, first_bad, rows_of, width_of, filled, cells_of, board_over}
use Rattle.plaintext.specs.Scanning.{Told, measure_of}
use Rattle.plaintext.proofs.RowCells.{filled_long, cells_more, cells_long}

-- an answer with no row is that for a comment
pub told_none : (letters : Option (Bor (List ℕ))) → ((row : Bor (List ℕ)) → letters ≡ Some row → ⊥) → {line : Judged} → Told (Ok letters) line → line ≡ comment
told_none None other told = told
told_none (Some r) other told = absurd (other r refl)

-- the greater of two numbers
greater : (a b : ℕ) → ord_max nat_cmp a b ≡ max a b
greater a b = grind (arith, common_steps)

-- ---- lines are measured: `width` and `height` are those of the lines before `left`, and n is a bound of them all
pub record Passed (lines left : List Judged) (n width height : ℕ) : Type 0 where
  pub places : first_bad left ≡ first_bad lines
  pub wide : max width (width_of (rows_of left)) ≡ width_of (rows_of lines)
  pub high : height + length (rows_of left) ≡ length (rows_of lines)
  pub few : height + length left ≤ n

pub passed_none : (lines : List Judged) (n : ℕ) → length lines ≤ n → Passed lines lines n 0 0
passed_none lines n l = record { places = refl; wide = omega arith; high = omega arith; few = omega arith }

module _ (lines : List Judged) (n width height : ℕ) where
  pub passed_end : Passed lines [] n width height → Ok (record { width = width; height = height }) ≡ measure_of (first_bad lines) (rows_of lines)
  unfolding first_bad rows_of width_of
  passed_end c =
      let w : width_of (rows_of lines) ≡ width = omega (arith, c.wide) in
      let h : length (rows_of lines) ≡ height = omega (arith, c.high) in
      rw (← c.places, w, h)

  module _ (left : List Judged) where
    pub passed_comment : Passed lines (comment ∷ left) n width height → Passed lines left n width height
    unfolding first_bad rows_of
    passed_comment c = record { places = c.places; wide = c.wide; high = c.high; few = omega (arith, c.few) }

    pub passed_row : (letters : List ℕ) → Passed lines (row (map letter_cell letters) ∷ left) n width height
        → Passed lines left n (ord_max nat_cmp width (length letters)) (height + 1)
    unfolding first_bad rows_of width_of
    passed_row letters c =
        let e = length-map letters letter_cell in
        record { places = c.places; wide = rw greater (omega (arith, c.wide)); high = omega (arith, c.high); few = omega (arith, c.few) }

    pub passed_bad : (p : ℕ) → Passed lines (bad p ∷ left) n width height → first_bad lines ≡ Some p
    unfolding first_bad
    passed_bad p c = sym c.places

-- ---- rows are copied to cells of width w: k cells are written, and what is left to write is the cells of the lines in `left`
pub record Copied (w : ℕ) (lines left : List Judged) (old cells : List ℕ) (k : ℕ) : Type 0 where
  pub narrow : width_of (rows_of left) ≤ w
  pub after : drop k (cells_of w (rows_of lines)) ≡ cells_of w (rows_of left)
  pub count : k + w * length (rows_of left) ≡ w * length (rows_of lines)
  pub holds : cells ≡ over (cells_of w (rows_of lines)) k old

module _ (w : ℕ) (lines : List Judged) (old : List ℕ) (wide : w ≡ width_of (rows_of lines)) where
  abbrev whole : List ℕ
  whole = cells_of w (rows_of lines)

  pub copied_none : Copied w lines lines old old 0
  copied_none = record { narrow = omega arith; after = refl; count = omega arith; holds = refl }

  module _ (cells : List ℕ) (k : ℕ) where
    pub copied_end : Copied w lines [] old cells k → cells ≡ board_over (rows_of lines) old
    unfolding rows_of board_over
    copied_end c =
        let z = mul-zero w in
        let e : k ≡ w * length (rows_of lines) = omega (arith, c.count) in
        let long : length whole ≡ w * length (rows_of lines) = cells_long w (rows_of lines) (omega arith) in
        rw (← wide) (rw e at c.holds ∙ over_all whole old (w * length (rows_of lines)) (rw long (omega arith)))

    module _ (left : List Judged) where
      -- a line that is no row is passed over
      pub copied_skip : {line : Judged} → rows_of (line ∷ left) ≡ rows_of left → Copied w lines (line ∷ left) old cells k → Copied w lines left old cells k
      copied_skip e c = record { narrow = rw e at c.narrow; after = rw e at c.after; count = rw e at c.count; holds = c.holds }

      module _ (letters : List ℕ) (c : Copied w lines (row (map letter_cell letters) ∷ left) old cells k) where
        abbrev here : List ℕ
        here = map letter_cell letters

        -- the row is no longer than w, and has room
        pub row_narrow : length letters ≤ w
        unfolding rows_of width_of
        row_narrow = omega (arith, c.narrow, length-map letters letter_cell)

        counted : k + w + w * length (rows_of left) ≡ w * length (rows_of lines)
        unfolding rows_of
        counted = omega (arith, c.count, mul-suc w (length (rows_of left)))

        pub row_room : k + w ≤ w * length (rows_of lines)
        row_room = omega (arith, counted)

        -- the row is written at the start of what is lent from k on
        pub copied_row : (part : List ℕ) → part ≡ filled w here ++ drop w (take (length cells - k) (drop k cells))
            → Copied w lines left old (put_mid k (length cells - k) cells part) (k + w)
        unfolding rows_of width_of
        copied_row part p =
            let b : drop k whole ≡ filled w here ++ cells_of w (rows_of left) = c.after ∙ cells_more w here (rows_of left) in
            let m : length (filled w here) ≡ w = filled_long w here (omega (arith, c.narrow)) in
            let r : k ≤ length whole = rw (cells_long w (rows_of lines) (omega arith)) (omega (arith, counted)) in
            record {
              narrow = omega (arith, c.narrow);
              after = block_rest whole (filled w here) (cells_of w (rows_of left)) k w b m;
              count = counted;
              holds = lent_block whole (filled w here) (cells_of w (rows_of left)) k w b m old cells part r c.holds p;
            }
