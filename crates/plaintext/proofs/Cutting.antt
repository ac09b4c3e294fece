-- A text is cut into its lines: byte by byte from its end, each byte keeps the lines well cut and adds itself to what they join to.
-- Assumes nothing.
use mathlib.Core.Path.{◌≡◌, refl, sym, ap, ◌∙◌}
use mathlib.Core.Bool.{Bool, true, false, cond}
use mathlib.Core.Logic.{inl, inr, ⊎_elim}
use mathlib.Core.List.Memᴰ
use mathlib.Core.List.{List, [], ◌∷◌, Memᴰ}
use Prim.Native.Nat.{ℕ, ◌<◌}
use native.Mathlib.Nat.{zero-lt-suc}
use borrow.Author.Tests.{eqb-true, eqb-false}
use lib.Dec.{eqb}
use lib.ListN.{length}
use Rattle.writer.specs.Letters.{LF}
use Rattle.plaintext.specs.Lines.{Line, empty_line, in_front, lines_of}
use Rattle.plaintext.specs.Theorems.{joined, WellCut, CutIntoLines}

-- the lines of a text with a byte more in front
abbrev pub added : ℕ → List Line → List Line
added b ls = cond (eqb b LF) (empty_line ∷ ls) (in_front b ls)

joined_more : (t : Bool) (b : ℕ) (ls : List Line) → eqb b LF ≡ t → joined (added b ls) ≡ b ∷ joined ls
unfolding joined
joined_more true b ls e = rw (e, eqb-true b LF e)
joined_more false b [] e = rw e
joined_more false b (l ∷ ls) e = rw e

no_lf : (b : ℕ) (l : List ℕ) → eqb b LF ≡ false → (Memᴰ LF l → ⊥) → Memᴰ LF (b ∷ l) → ⊥
no_lf b l e h m = ⊎_elim (λ (q : LF ≡ b). eqb-false b LF e (sym q)) h (Memᴰ.cases_cons m)

well_cut : (t : Bool) (b : ℕ) (ls : List Line) → eqb b LF ≡ t → WellCut ls → WellCut (added b ls)
well_cut true b ls e c = rw e (Memᴰ.not-nil, inl refl, c)
well_cut false b [] e c = rw e (no_lf b [] e Memᴰ.not-nil, inr (zero-lt-suc 0, refl), tt)
well_cut false b (l ∷ ls) e c =
    rw e (no_lf b l.bytes e c.0, ⊎_elim (λ (q : l.ended ≡ true). inl q) (λ (q : (0 < length l.bytes) × (ls ≡ [])). inr (zero-lt-suc (length l.bytes), q.1)) c.1, c.2)

pub cut_into_lines : CutIntoLines
unfolding lines_of joined
cut_into_lines [] = (refl, tt)
cut_into_lines (b ∷ text) =
    let i = cut_into_lines text in
    (joined_more (eqb b LF) b (lines_of text) refl ∙ ap {B = List ℕ} (λ x. b ∷ x) i.0, well_cut (eqb b LF) b (lines_of text) refl i.1)
