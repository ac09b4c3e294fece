-- Three rows step to a row by a table that holds a rule's next states exactly as by the rule, so entries and a choice by the table are those by the rule.
-- Assumes nothing.
use mathlib.Core.Path.{◌≡◌, ◌∙◌, sym, ap, fun_ext}
use mathlib.Core.Bool.{Bool, true, false}
use mathlib.Core.List.{List}
use Prim.Native.Nat.{ℕ, suc, ◌+◌, ◌-◌, ◌^◌, ◌<◌, ◌≤◌}
use native.Mathlib.Omega.{arith}
use lib.Dec.{eqb}
use lib.IntN.{pos, pred_ℤ, suc_ℤ}
use borrow.Author.Tests.{le-leb}
use lib.ListN.{length}
use Rattle.board.specs.Boards.{Width}
use Rattle.board.specs.Search.{all_below}
use Rattle.board.proofs.Widths.{width_le}
use Rattle.elimination.specs.Kind.{choose}
use Rattle.elimination.specs.Kind as Elimination
use Rattle.elimination.specs.Table.{reads, fill_entries}
use Rattle.elimination.specs.Sums.{sum_kind}
use Rattle.rule.specs.Rule.{Holds, entry_of, next_under}
use Rattle.rule.specs.declared.Rule.{Rule}
use Rattle.life.specs.Plane.{nine}
use Rattle.life.specs.Rows.{cell_of, becomes, steps_to}
use Rattle.job_kind.specs.Kinds.{halves_of, has_target, kind_digits}
use Rattle.job_kind.specs.declared.Kind.{Kind}
use Rattle.score_table.specs.ScoreTable.{absent, want_of, rules_for, kind_for}
use Rattle.third_demand.specs.Units.{want_by, grid_rows}
use Rattle.score_table.specs.Inner.{Memory, EntriesRead}
use Rattle.score_table.specs.Calls.{fill_writes, row_picked}
use Rattle.score_table.proofs.Columns.{cell_small}
use Rattle.score_table.proofs.Calls.{call_fits_lem, read_fits, fill_done, picked_choice}

-- the pattern around a column is one of 512
nine_small : (w a b c j : ℕ) → nine (cell_of w a) (cell_of w b) (cell_of w c) (pos j) < 512
nine_small w a b c j =
    omega (
      arith,
      cell_small w a (pred_ℤ (pos j)),
      cell_small w a (pos j),
      cell_small w a (suc_ℤ (pos j)),
      cell_small w b (pred_ℤ (pos j)),
      cell_small w b (pos j),
      cell_small w b (suc_ℤ (pos j)),
      cell_small w c (pred_ℤ (pos j)),
      cell_small w c (pos j),
      cell_small w c (suc_ℤ (pos j)),
    )

-- a grid's numbers can't be taken for none
small : (halves target : Bool) {w : ℕ} → Width halves w → (want_of halves target).limit + w < absent
small true target {w} W = omega (arith, width_le true w W)
small false target {w} W = omega (arith, width_le false w W)

module _ (rule : Rule) (table : List ℕ) (H : Holds (next_under rule) table) where
  steps_same : (w a b c t : ℕ) → steps_to (entry_of table) w a b c t ≡ steps_to (next_under rule) w a b c t
  unfolding steps_to becomes
  steps_same w a b c t =
      ap (λ (f : ℕ → Bool). all_below f (w + 2)) (fun_ext λ j. ap (λ (x : ℕ). eqb x (cell_of w t (pos j))) (H.entry _ (nine_small w a b c j)))

  module _ (kind : Kind) (w h : ℕ) (g : List ℕ) where
    kind_same : kind_for (want_by kind) (entry_of table) w h g ≡ grid_rows kind rule w h g
    kind_same =
        ap (λ (f : ℕ → ℕ → ℕ → ℕ → Bool). sum_kind (rules_for (want_by kind) f w h g)) (fun_ext λ a. fun_ext λ b. fun_ext λ c. fun_ext λ t. steps_same w a b c t)

    module _ (t : List ℕ) where
      -- the filling of entries
      pub filled : (k source target j m : ℕ) → EntriesRead (want_by kind) w h k source j m g t → target + 4 ^ kind_digits kind w ≤ length t
          → fill_writes (want_by kind) (entry_of table) w h k source target j m g t ≡ fill_entries (grid_rows kind rule w h g) k source target j m t
      filled k source target j m R l =
          sym (fill_done (want_by kind) w h g (entry_of table) k source target j m t
          (read_fits (want_by kind) w h g k source target j m t R (small (halves_of kind) (has_target kind) R.memory.width) l))
          ∙ ap (λ (K : Elimination.Kind ℕ). fill_entries K k source target j m t) kind_same

      -- the choice of a row
      pub picked : Memory (halves_of kind) w h g → (r source a b : ℕ) → r < h → source + 4 ^ kind_digits kind w ≤ length t → a < 2 ^ kind_digits kind w → b < 2 ^ kind_digits kind w
          → row_picked (want_by kind) (entry_of table) w h r source a b g t ≡ choose (grid_rows kind rule w h g) (h - suc r) a b (reads (grid_rows kind rule w h g) t source b)
      picked M r source a b l f m n =
          picked_choice (want_by kind) w h g (entry_of table) r source a b t (call_fits_lem (want_by kind) w h g M (small (halves_of kind) (has_target kind) M.width)) l
          (le-leb (source + 4 ^ kind_digits kind w) (length t) f) m n
          ∙ ap (λ (K : Elimination.Kind ℕ). choose K (h - suc r) a b (reads K t source b)) kind_same
