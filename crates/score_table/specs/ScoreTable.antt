-- Document 01, "The score table" and the choice of a row: row elimination over the rows of a grid. The rules of an entry and of a choice over
-- whatever numbers the table holds are `entry` and `choose` of crate `elimination`; here stand what they are asked of, and where document 01 has
-- the entries and which of them a unit writes. `next` is the next-state table of the 512 patterns.
-- Assumes nothing.
use Rattle.std.specs.Prelude.{◌≡◌, Bool, cond, not, ◌&&◌, List, ℕ, suc, ◌+◌, ◌*◌, ◌-◌, ◌/◌, ◌%◌, ◌^◌, ◌<◌, get_or}
use Rattle.elimination.specs.Kind.{Kind}
use Rattle.elimination.specs.Sums.{SumRules, sum_kind}
use Rattle.elimination.specs.Task.{Task, fill, row}
use Rattle.elimination.specs.FillThenChoose.{plan}
use Rattle.elimination.specs.TwoLayers as Two
use Rattle.life.specs.Rows.{steps_to}
use Rattle.score_table.specs.Rows.{row_worth, row_kept, marks_of, target_row, digits_of, row_for}
use Rattle.score_table.specs.declared.Want.{Want}

-- the number that stands for none
abbrev pub absent : ℕ
absent = 65535

-- what is wanted: the greatest number of free live cells, among equals the greatest row (Req 09); or with a target the least number of live cells, among
-- equals the smallest row (Req 08). A number read above 600 counts as none, and above 1,200 where rows are held as their left halves
abbrev pub want_of : Bool → Bool → Want
want_of halves target = record { least = target; greater_first = not target; limit = cond halves 1200 600; halves = halves; predecessor = target }

-- What is asked: the sum of live cells that is wanted. Row c may stand below a over b where the three step to what b has to become and c keeps the
-- givens of its row, which start at `givensAt k` with k rows after it; the board may end below a over b where (a, b, 0) do, and (b, 0, 0) step to a dead
-- row. `steps a b c t` is whether three rows step to t, and `becomes n b` what b has to become with n rows after it: b itself where rows are to agree. a,
-- b and c are numbers, and each goes by the row that it stands for.
abbrev pub rules : Want → (ℕ → ℕ → ℕ → ℕ → Bool) → (ℕ → ℕ → ℕ) → ℕ → (ℕ → ℕ) → List ℕ → SumRules
rules want steps becomes w givensAt givens = record {
  least = want.least;
  greater_first = want.greater_first;
  absent = absent;
  limit = want.limit;
  worth = λ k c. row_worth w (marks_of want.predecessor givens) (givensAt k) (row_for want w c);
  codes = 2 ^ digits_of want w;
  may = λ k a b c.
      steps (row_for want w a) (row_for want w b) (row_for want w c) (becomes (suc k) (row_for want w b))
      && row_kept w (marks_of want.predecessor givens) (givensAt k) (row_for want w c);
  may_end = λ a b. steps (row_for want w a) (row_for want w b) 0 (becomes 0 (row_for want w b)) && steps (row_for want w b) 0 0 0;
}

-- of a grid of h rows: the row with k rows after it has h - k - 1 rows above it
abbrev pub rules_for : Want → (ℕ → ℕ → ℕ → ℕ → Bool) → ℕ → ℕ → List ℕ → SumRules
rules_for want steps w h givens = rules want steps (λ n b. target_row want.predecessor w givens (h - n) b) w (λ k. (h - suc k) * w) givens

-- whose rows step by `next`
abbrev pub kind_for : Want → (ℕ → ℕ) → ℕ → ℕ → List ℕ → Kind ℕ
kind_for want next w h givens = sum_kind (rules_for want (steps_to next w) w h givens)

-- ---- where entries lie
-- the place of entry (i, a, b), counted from 0
unfoldable pub entry_place : ℕ → ℕ → ℕ → ℕ → ℕ
entry_place w i a b = (i - 1) * 4 ^ w + a * 2 ^ w + b

-- its place in a table of two layers: in the half numbered i modulo 2
unfoldable pub two_layer_place : ℕ → ℕ → ℕ → ℕ → ℕ
two_layer_place w i a b = i % 2 * 4 ^ w + a * 2 ^ w + b

-- the numbers that a table holds from a place on
abbrev pub reads_from : List ℕ → ℕ → ℕ → ℕ
reads_from table first c = get_or table (first + c) 0

-- the numbers that it holds for the rows c below b in row i: entries (i, b, c)
abbrev pub reads_of : ℕ → List ℕ → ℕ → ℕ → ℕ → ℕ
reads_of w table i b c = get_or table (entry_place w i b c) 0

-- where the whole table is filled, unit u of filling writes entry (h - rows_after, row_a, row_b), w being the digits of a row's number: layer h first,
-- then upward; in a layer a rises, then b
abbrev pub rows_after : ℕ → ℕ → ℕ
rows_after w u = u / 4 ^ w

abbrev pub row_a : ℕ → ℕ → ℕ
row_a w u = u % 4 ^ w / 2 ^ w

abbrev pub row_b : ℕ → ℕ → ℕ
row_b w u = u % 4 ^ w % 2 ^ w

-- the place that it writes
unfoldable pub unit_place : ℕ → ℕ → ℕ → ℕ
unit_place w h u = entry_place w (h - rows_after w u) (row_a w u) (row_b w u)

-- ---- the tasks of a job's plan
-- what a task writes and reads lies where it has to, by the place of an entry: entry (h - k, a, b), by entries (h - k + 1, b, c); and for row r + 1 entries
-- (r + 1, b, c)
abbrev pub InPlace : (ℕ → ℕ → ℕ → ℕ) → ℕ → ℕ → Task → Type 0
InPlace place w h (fill k source target j) =
    (target + j ≡ place (h - k) (j / 2 ^ w) (j % 2 ^ w)) × ((b c : ℕ) → source + (b * 2 ^ w + c) ≡ place (h - k + 1) b c)
InPlace place w h (row r source) = (b c : ℕ) → source + (b * 2 ^ w + c) ≡ place (r + 1) b c

-- THE PLACES: every task of the plan that fills the whole table is in place, where document 01 has it
abbrev pub PlacesRight : Type 0
PlacesRight = (w h u : ℕ) → InPlace (entry_place w) w h (plan h (2 ^ w * 2 ^ w) u)

-- THE HALVES: so is every task of the plan over two layers, where Req 05 has it
abbrev pub TwoLayersRight : Type 0
TwoLayersRight = (w h u : ℕ) → u < Two.start_of h (2 ^ w * 2 ^ w) h → InPlace (two_layer_place w) w h (Two.plan h (2 ^ w * 2 ^ w) u)
