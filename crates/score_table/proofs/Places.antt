-- The places of a grid's table, and of one of two layers, are row elimination's.
-- Assumes nothing.
use mathlib.Core.Path.{◌≡◌, sym, ◌∙◌, ap, subst}
use mathlib.Core.Bool.{Bool, true, false, cond}
use Prim.Native.Nat.{ℕ, ◌+◌, ◌*◌, ◌-◌, ◌/◌, ◌%◌, ◌^◌}
use native.Mathlib.Nat.{div-add-mod'}
use native.Mathlib.Omega.{arith}
use lib.Dec.{ltb}
use Rattle.elimination.specs.FillThenChoose as Whole
use Rattle.elimination.proofs.FillThenChoose.{place_digits}
use Rattle.elimination.specs.Task.{row}
use Rattle.elimination.specs.FillThenChoose.{fill_at, plan}
use Rattle.elimination.specs.TwoLayers as Two
use Rattle.elimination.proofs.TwoLayers as Twos
use Rattle.score_table.specs.ScoreTable.{entry_place, unit_place, two_layer_place, InPlace, PlacesRight, TwoLayersRight}
use Rattle.board.proofs.Powers.{four_two}

-- the place that a unit writes, by its layer and its place there
pub unit_place_lem : (w h u : ℕ) → unit_place w h u ≡ (h - 1 - u / 4 ^ w) * 4 ^ w + u % 4 ^ w
unfolding unit_place entry_place
unit_place_lem w h u =
    let j = u % 4 ^ w in
    let e : h - u / 4 ^ w - 1 ≡ h - 1 - u / 4 ^ w = omega arith in
    let d : j / 2 ^ w * 2 ^ w + j % 2 ^ w ≡ j = div-add-mod' j (2 ^ w) in
    rw e (omega arith)

pub place_same : (w h u : ℕ) → unit_place w h u ≡ Whole.place h (2 ^ w * 2 ^ w) u
place_same w h u = unit_place_lem w h u ∙ rw (four_two w) (sym (place_digits h (2 ^ w * 2 ^ w) u))

-- ---- the tasks of the plan that fills the whole table lie where document 01 has the entries
pub places_right : PlacesRight
unfolding plan entry_place
places_right w h u = go (ltb u (h * q))
  where
    q : ℕ
    q = 2 ^ w * 2 ^ w

    four : 4 ^ w ≡ 2 ^ w * 2 ^ w
    four = four_two w

    go : (b : Bool) → InPlace (entry_place w) w h (cond b (fill_at h (2 ^ w * 2 ^ w) u) (row (u - h * (2 ^ w * 2 ^ w)) ((u - h * (2 ^ w * 2 ^ w)) * (2 ^ w * 2 ^ w))))
    go true =
        let k = u / (2 ^ w * 2 ^ w) in
        let j = u % (2 ^ w * 2 ^ w) in
        let d : j / 2 ^ w * 2 ^ w + j % 2 ^ w ≡ j = div-add-mod' j (2 ^ w) in
        let e : h - k - 1 ≡ h - 1 - k = omega arith in
        let f : h - k + 1 - 1 ≡ h - k = omega arith in
        (rw (four, e) (omega arith), λ b c. rw (four, f) (omega arith))
    go false = λ b c. let f : u - h * (2 ^ w * 2 ^ w) + 1 - 1 ≡ u - h * (2 ^ w * 2 ^ w) = omega arith in rw (four, f) (omega arith)

-- ---- those of the plan over two layers in their halves
pub two_layers_right : TwoLayersRight
unfolding two_layer_place
two_layers_right w h u l = go (Twos.does h (2 ^ w * 2 ^ w) u l)
  where
    four : 4 ^ w ≡ 2 ^ w * 2 ^ w
    four = four_two w

    filled : (m : ℕ) → InPlace (two_layer_place w) w h (Two.fill_in h (2 ^ w * 2 ^ w) m)
    filled m =
        let j = m % (2 ^ w * 2 ^ w) in
        let d : j / 2 ^ w * 2 ^ w + j % 2 ^ w ≡ j = div-add-mod' j (2 ^ w) in
        (rw four (omega arith), λ b c. rw four (omega arith))

    go : Twos.Does h (2 ^ w * 2 ^ w) u → InPlace (two_layer_place w) w h (Two.plan h (2 ^ w * 2 ^ w) u)
    go (Twos.fills r m lr lm is) =
        subst (InPlace (two_layer_place w) w h) (sym (ap (Two.plan h (2 ^ w * 2 ^ w)) is ∙ Twos.plan_fill h (2 ^ w * 2 ^ w) r m lr lm)) (filled m)
    go (Twos.chooses r lr is) =
        subst (InPlace (two_layer_place w) w h) (sym (ap (Two.plan h (2 ^ w * 2 ^ w)) is ∙ Twos.plan_row h (2 ^ w * 2 ^ w) r lr)) (λ b c. rw four (omega arith))
