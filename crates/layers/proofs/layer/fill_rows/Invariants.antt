-- `layers::layer::fill_rows` meets its contract. The loop's invariant: the entries of the rows b so far are the rule's, and nothing outside the layer has
-- changed.
-- Assumes nothing.
use Rattle.std.specs.Prelude.{ℕ, ◌*◌, ◌^◌, get_or}
use Rattle.column_elimination.specs.Columns.{Keeps, entry_by}
use Rattle.column_elimination.proofs.Layers.{Partly}
use Rattle.layers.proofs.layer.fill_rows.Given as goal

abbrev pub invariant-loop-v : goal.invariant-loop-v
invariant-loop-v l =
    (next : ℕ → ℕ) → Keeps next l.rows.keep.now
    → Partly (2 ^ l.rows.w) l.target (8 * l.v)
    (λ a b. entry_by l.rows.limit next l.rows.w (λ c. get_or l.rows.worth.now c 0) l.initial.table l.source a b) l.initial.table l.table
