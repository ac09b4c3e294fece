-- Column elimination: the greatest sums below every row a over one row b together, one column after the other. A column drops one cell of row c
-- and takes in one cell of row a. A number is a sum and 1; 0 stands for none.
-- Assumes nothing.
use Rattle.std.specs.Prelude.{◌≡◌, Bool, false, cond, List, ℕ, zero, suc, ◌+◌, ◌*◌, ◌-◌, ◌/◌, ◌%◌, ◌^◌, ◌≤◌, ◌<◌, eqb, leb, ltb, get_or}
use Rattle.std.specs.Int.Bits.{bit_and}
use Rattle.elimination.specs.Kind.{entry}
use Rattle.life.specs.Rows.{window, agree}
use Rattle.score_table.specs.Rows.{row_gain}
use Rattle.score_table.specs.ScoreTable.{absent, kind_for}
use Rattle.score_table.specs.declared.Want.{Want}
use Rattle.column_elimination.specs.Written.{Spread}

-- the greater of two
abbrev pub larger : ℕ → ℕ → ℕ
larger v y = cond (ltb v y) y v

-- the greatest of the numbers that a function takes below a bound
unfoldable pub greatest : (ℕ → ℕ) → ℕ → ℕ
greatest f zero = 0
greatest f (suc n) = larger (greatest f n) (f n)

-- a number where a test holds, otherwise none; and the test as a mask of 16 bits
abbrev pub keep_if : Bool → ℕ → ℕ
keep_if t v = cond t v 0

abbrev pub mask_of : Bool → ℕ
mask_of t = cond t 65535 0

-- the middle cell of pattern p keeps its state
unfoldable pub pattern_kept : (ℕ → ℕ) → ℕ → Bool
pattern_kept next p = eqb (next p) (p / 16 % 2)

-- the cell of b in column j keeps its state, under the cells x of row a and over the cells z of row c around it
abbrev pub column_kept : (ℕ → ℕ) → ℕ → ℕ → ℕ → ℕ → ℕ → Bool
column_kept next w b j x z = pattern_kept next (64 * x + 8 * window w b j + z)

-- what is held after columns 0 to j - 1, at x, which reads: cells 1 to j of row a, then cells j - 1 to w of row c
unfoldable pub held : (ℕ → ℕ) → ℕ → ℕ → (ℕ → ℕ) → ℕ → ℕ → ℕ
held next w b s zero x = s x
held next w b s (suc j) x =
    larger
    (keep_if (column_kept next w b j (x / 2 ^ (w + 1 - j) % 8) (4 * x / 2 ^ (w + 1 - j) % 4))
    (held next w b s j (x - x / 2 ^ (w + 1 - j) % 2 * 2 ^ (w + 1 - j))))
    (keep_if (column_kept next w b j (x / 2 ^ (w + 1 - j) % 8) (4 * x / 2 ^ (w + 1 - j) % 4 + 4))
    (held next w b s j (x - x / 2 ^ (w + 1 - j) % 2 * 2 ^ (w + 1 - j) + 2 ^ (w + 1 - j))))

-- THE THEOREM of columns: after every column, at row a and two dead cells, the greatest number of the rows that agree with a and b is held
abbrev pub HeldIsGreatest : Type 0
HeldIsGreatest = (next : ℕ → ℕ) (w a b : ℕ) (s : ℕ → ℕ) → a < 2 ^ w → b < 2 ^ w → ((c : ℕ) → 2 ^ w ≤ c → s c ≡ 0)
    → held next w b s (w + 2) (4 * a) ≡ greatest (λ c. keep_if (agree next w a b c) (s c)) (2 ^ w)

-- ---- where it starts
-- one more than what a row earns, with the number read for it; above the limit that one counts as none
unfoldable pub scored : ℕ → ℕ → ℕ → ℕ
scored limit g e = cond (eqb g 0) 0 (cond (leb e limit) (g + e) 0)

-- of every row c, by what rows earn; two cells in front are dead
unfoldable pub start_number : ℕ → ℕ → (ℕ → ℕ) → (ℕ → ℕ) → ℕ → ℕ
start_number limit w gains read x = cond (ltb x (2 ^ w)) (scored limit (gains x) (read x)) 0

-- the entry: 65,535 for none
unfoldable pub entry_in : ℕ → ℕ
entry_in v = cond (eqb v 0) absent (v - 1)

-- THE THEOREM of the entry: where the greatest sum is wanted, a row's cells are its number's digits and rows stay as they are, the greatest number of
-- the rows that agree is the rule's entry
abbrev pub GreatestIsEntry : Type 0
GreatestIsEntry = (want : Want) (next : ℕ → ℕ) (w h : ℕ) (givens : List ℕ) (k a b : ℕ) (read : ℕ → ℕ)
    → want.least ≡ false → want.halves ≡ false → want.predecessor ≡ false
    → entry_in (greatest (λ c. keep_if (agree next w a b c) (start_number want.limit w (row_gain w givens ((h - suc k) * w)) read c)) (2 ^ w))
    ≡ entry (kind_for want next w h givens) (suc k) a b read

-- ---- eight rows b at once: place 8 x + l holds the number at x for the row in lane l
-- the numbers loaded, where the rows' entries start at `first`
unfoldable pub loaded : ℕ → ℕ → List ℕ → List ℕ → ℕ → ℕ → ℕ
loaded limit n gains table first y = cond (ltb y (8 * n)) (scored limit (get_or gains (y / 8) 0) (get_or table (first + y % 8 * n + y / 8) 0)) 0

-- the greater of two numbers under their masks, in a lane
unfoldable pub mix : List ℕ → List ℕ → ℕ → ℕ → ℕ → ℕ → ℕ
mix src masks i k m l =
    larger (bit_and (get_or src i 0) (get_or masks (m + l) 0)) (bit_and (get_or src k 0) (get_or masks (m + 32 + l) 0))

-- one column, whose runs of equal masks are q places long
unfoldable pub crossed : List ℕ → List ℕ → ℕ → ℕ → ℕ
crossed src masks q y =
    mix src masks ((y / q - y / q / 4 % 2 * 4) * q + y % q) ((y / q - y / q / 4 % 2 * 4 + 4) * q + y % q) (64 * (y / q / 4 % 8) + 8 * (y / q % 4)) (y % 8)

-- of each of the 512 patterns, as a mask, whether its middle cell keeps its state
pub record Keeps (next : ℕ → ℕ) (keep : List ℕ) : Type 0 where
  pub at : (p : ℕ) → p < 512 → get_or keep p 0 ≡ mask_of (pattern_kept next p)

-- by such masks those of a column j: by the cells of row a, those of row c, and the lane
unfoldable pub column_mask : List ℕ → ℕ → ℕ → ℕ → ℕ → ℕ
column_mask keep w b j t = get_or keep (64 * (t / 64) + 8 * window w (b + t % 8) j + t / 8 % 8) 0

-- those of the last two columns, w and w + 1: by the last two cells of row a and of row c; and by the lane
unfoldable pub last_pair : List ℕ → ℕ → ℕ → ℕ → ℕ → ℕ
last_pair keep w b a c =
    bit_and (get_or keep (64 * (2 * a) + 8 * window w b w + 2 * c) 0) (get_or keep (64 * (4 * (a % 2)) + 8 * window w b (w + 1) + 4 * (c % 2)) 0)

unfoldable pub last_mask : List ℕ → ℕ → ℕ → ℕ → ℕ
last_mask keep w b t = last_pair keep w (b + t % 8) (t / 32) (t / 8 % 4)

-- what the last two columns leave below row a, in a lane
unfoldable pub after_last : List ℕ → List ℕ → ℕ → ℕ → ℕ
after_last src last a l =
    larger
    (larger (bit_and (get_or src (32 * a + l) 0) (get_or last (32 * (a % 4) + l) 0)) (bit_and (get_or src (32 * a + 16 + l) 0) (get_or last (32 * (a % 4) + 16 + l) 0)))
    (larger (bit_and (get_or src (32 * a + 8 + l) 0) (get_or last (32 * (a % 4) + 8 + l) 0)) (bit_and (get_or src (32 * a + 24 + l) 0) (get_or last (32 * (a % 4) + 24 + l) 0)))

-- the vector after columns 0 to j - 1 holds what is held for eight rows from b on, whose numbers at the start are f of their lane
pub record VectorHolds (next : ℕ → ℕ) (w b : ℕ) (f : ℕ → ℕ → ℕ) (j : ℕ) (vector : List ℕ) : Type 0 where
  pub at : (x l : ℕ) → x < 4 * 2 ^ w → l < 8 → get_or vector (8 * x + l) 0 ≡ held next w (b + l) (f l) j x

-- numbers that fit 16 bits
abbrev pub Small : (ℕ → ℕ → ℕ) → Type 0
Small f = (l x : ℕ) → f l x ≤ 65535

-- of two vectors the one that holds the numbers after j columns; each column goes from one to the other
abbrev pub front : ℕ → List ℕ → List ℕ → List ℕ
front j s d = cond (eqb (j % 2) 0) s d

-- column j was done
pub record Turned (next : ℕ → ℕ) (w b j : ℕ) (s d s' d' : List ℕ) : Type 0 where
  pub holds : (f : ℕ → ℕ → ℕ) → Small f → VectorHolds next w b f j (front j s d) → VectorHolds next w b f (j + 1) (front (j + 1) s' d')

-- the last two columns were done, and the entries written
pub record Ended (next : ℕ → ℕ) (w b out : ℕ) (vector old new : List ℕ) : Type 0 where
  pub spread : (f : ℕ → ℕ → ℕ) → Small f → VectorHolds next w b f w vector → Spread (2 ^ w) out b (2 ^ w) (λ a l. entry_in (held next w (b + l) (f l) (w + 2) (4 * a))) old new

-- the entry below a over b, by what rows earn and the layer that starts at `below`
unfoldable pub entry_by : ℕ → (ℕ → ℕ) → ℕ → (ℕ → ℕ) → List ℕ → ℕ → ℕ → ℕ → ℕ
entry_by limit next w gains table below a b =
    entry_in (held next w b (start_number limit w gains (λ c. get_or table (below + b * 2 ^ w + c) 0)) (w + 2) (4 * a))
