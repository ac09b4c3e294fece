-- What the functions answer and leave, for every input: the filling of entries, and the choice of a row, by the numbers of a task of crate
-- `elimination`; and what a row earns.
-- Assumes nothing.
use Rattle.std.specs.Prelude.{Bool, true, false, cond, ◌&&◌, List, ℕ, suc, ◌+◌, ◌-◌, ◌*◌, ◌^◌, eqb, leb, ltb, length, Option, None, Some}
use Rattle.board.specs.Boards.{max_height, width_fits}
use Rattle.rule.specs.Rule.{entry_of}
use Rattle.elimination.specs.Candidates.{Choice, nothing, chosen}
use Rattle.elimination.specs.Kind.{choose}
use Rattle.elimination.specs.Table.{reads, fill_entries}
use Rattle.score_table.specs.Rows.{row_worth, row_gain, marks_of, digits_of, row_for}
use Rattle.score_table.specs.ScoreTable.{absent, kind_for}
use Rattle.score_table.specs.declared.Want.{Want}
use Rattle.score_table.specs.declared.Grid.{Grid}
use Rattle.score_table.specs.declared.Entries.{Entries}
use Rattle.board.specs.declared.ChosenRow.{ChosenRow}

-- the givens are those of a grid of a width that fits how rows are held, and of at most 60 rows
unfoldable pub grid_fits : Bool → ℕ → ℕ → List ℕ → Bool
grid_fits halves w h givens = width_fits halves w && leb h max_height && eqb (length givens) (w * h)

-- what each call asks first: such givens, and an entry's number, at most the limit and a row's worth, fits 16 bits and can't be taken for none
abbrev pub call_fits : Want → ℕ → ℕ → List ℕ → Bool
call_fits want w h givens = grid_fits want.halves w h givens && ltb (want.limit + w) absent

-- the layer that starts at a place lies within a table of n entries, where a row's number has so many binary digits
abbrev pub layer_fits : ℕ → ℕ → ℕ → Bool
layer_fits bits n at = leb (at + 4 ^ bits) n

-- ---- filling
-- there are the m entries from entry j on of the layer at `target` with k rows after it, and both layers lie within the table; the last layer reads none
unfoldable pub fill_fits : Want → ℕ → ℕ → ℕ → ℕ → ℕ → ℕ → ℕ → List ℕ → ℕ → Bool
fill_fits want w h k source target j m givens n =
    call_fits want w h givens && ltb k h && leb (j + m) (4 ^ digits_of want w) && layer_fits (digits_of want w) n target
    && cond (eqb k 0) true (layer_fits (digits_of want w) n source)

-- the table afterwards: they are filled; entries that there aren't, memory or a limit that doesn't fit, leave the table as it was
unfoldable pub fill_writes : Want → (ℕ → ℕ) → ℕ → ℕ → ℕ → ℕ → ℕ → ℕ → ℕ → List ℕ → List ℕ → List ℕ
fill_writes want next w h k source target j m givens table =
    cond (fill_fits want w h k source target j m givens (length table)) (fill_entries (kind_for want next w h givens) k source target j m table) table

-- the same of a grid and entries as they are lent
abbrev pub entries_fit : Grid → Entries → ℕ → Bool
entries_fit grid e n = fill_fits grid.want grid.width grid.height e.after e.source e.target e.from e.count grid.givens.now n

abbrev pub filled : Grid → Entries → List ℕ → List ℕ
filled grid e table = fill_writes grid.want (entry_of grid.next.now) grid.width grid.height e.after e.source e.target e.from e.count grid.givens.now table

-- what a row earns and 1 as the one with r rows above it, 0 where it doesn't keep the givens there; no row above which there are r, or memory that
-- doesn't fit, gives 0; of a number of more than w digits the last w are the row
unfoldable pub gain_of : ℕ → ℕ → ℕ → ℕ → List ℕ → ℕ
gain_of w h r c givens = cond (grid_fits false w h givens && ltb r h) (row_gain w givens (r * w) c) 0

-- ---- choosing
-- the choice of the row with r rows above it, the last two of them `above` and `last`, by its layer, which starts at `source`; a row that there
-- isn't, memory or a limit that doesn't fit, gives nothing
unfoldable pub row_picked : Want → (ℕ → ℕ) → ℕ → ℕ → ℕ → ℕ → ℕ → ℕ → List ℕ → List ℕ → Choice ℕ
row_picked want next w h r source above last givens table =
    cond
    (call_fits want w h givens && ltb r h && layer_fits (digits_of want w) (length table) source && ltb above (2 ^ digits_of want w)
    && ltb last (2 ^ digits_of want w))
    (choose (kind_for want next w h givens) (h - suc r) above last (reads (kind_for want next w h givens) table source last)) nothing

-- the answer: the row chosen, and what it is worth
abbrev pub picked_of : Want → ℕ → List ℕ → ℕ → Choice ℕ → Option ChosenRow
picked_of want w givens r nothing = None
picked_of want w givens r (chosen c n) = Some (record { row = c; worth = row_worth w (marks_of want.predecessor givens) (r * w) (row_for want w c) })

-- the same of a grid as it is lent
abbrev pub row_of_grid : Grid → ℕ → ℕ → ℕ → ℕ → List ℕ → Option ChosenRow
row_of_grid grid r source above last table =
    picked_of grid.want grid.width grid.givens.now r
    (row_picked grid.want (entry_of grid.next.now) grid.width grid.height r source above last grid.givens.now table)
