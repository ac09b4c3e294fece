-- Document 01, "A job and its units": which numbers of a job fit, for any kind of job; and that they go on fitting from unit to unit.
-- Assumes nothing.
use Rattle.std.specs.Prelude.{◌≡◌, Bool, true, false, cond, ◌&&◌, ℕ, zero, suc, ◌+◌, ◌-◌, ◌*◌, ◌≤◌, ◌<◌, eqb, leb, ltb}
use Rattle.elimination.specs.Task.{Task, fill, row, is_fill}
use Rattle.elimination.specs.FillThenChoose as Whole
use Rattle.elimination.specs.TwoLayers as Two

-- what a kind of job fixes of its numbers, for a width and a height
pub record Shape : Type 0 where
  -- a row is a number below this
  pub codes : ℕ
  -- the entries of the table
  pub entries : ℕ
  -- the rows of the board
  pub rows : ℕ
  -- what each unit does, and the choosing units among the first u
  pub plan : ℕ → Task
  pub chosen : ℕ → ℕ
  -- a job's length where there is a board, and where there is none
  pub board_length : ℕ
  pub none_length : ℕ
  -- the most that one row is worth
  pub most : ℕ

-- the numbers of a job that its units change
pub record Numbers : Type 0 where
  pub units : ℕ
  pub above : ℕ
  pub last : ℕ
  pub live : ℕ
  pub mark : ℕ

-- ---- the numbers after a unit
abbrev pub after_entry : Numbers → Numbers
after_entry n = record { units = suc n.units; above = n.above; last = n.last; live = n.live; mark = 0 }

-- and after m units that each fill an entry
abbrev pub after_entries : ℕ → Numbers → Numbers
after_entries m n = record { units = n.units + m; above = n.above; last = n.last; live = n.live; mark = 0 }

-- row c of h is chosen with r rows above it, and all are then worth `live`
abbrev pub after_row : ℕ → ℕ → ℕ → ℕ → Numbers → Numbers
after_row h r c live n = record { units = suc n.units; above = n.last; last = c; live = live; mark = cond (ltb (suc r) h) 0 1 }

-- no row can be chosen as row 1
abbrev pub after_none : Numbers → Numbers
after_none n = record { units = suc n.units; above = n.above; last = n.last; live = n.live; mark = 2 }

-- with k rows chosen, each worth at most `most`, live is at most what they are worth, last row is 0 if k = 0, row above is 0 if k is below 2
unfoldable pub rows_fit : ℕ → ℕ → ℕ → ℕ → ℕ → Bool
rows_fit most k above last live = leb live (most * k) && cond (eqb k 0) (eqb last 0) true && cond (ltb k 2) (eqb above 0) true

-- the entries that the first u units of a plan fill
unfoldable pub entries_filled : (ℕ → Task) → ℕ → ℕ
entries_filled plan zero = 0
entries_filled plan (suc u) = entries_filled plan u + cond (is_fill (plan u)) 1 0

module _ (S : Shape) where
  -- units by the end mark: below the length for mark 0, equal to it for mark 1, the length of none for mark 2; no other mark
  unfoldable pub units_fit : ℕ → ℕ → Bool
  units_fit units mark =
      cond (eqb mark 0) (ltb units S.board_length)
      (cond (eqb mark 1) (eqb units S.board_length) (cond (eqb mark 2) (eqb units S.none_length) false))

  -- the rows chosen; for mark 2 no row counts as chosen
  unfoldable pub rows_chosen : ℕ → ℕ → ℕ
  rows_chosen units mark = cond (eqb mark 2) 0 (S.chosen units)

  -- resuming takes the numbers when both rows are row codes, units fit the mark, and rows and live cells fit the rows chosen
  unfoldable pub numbers_fit : Numbers → Bool
  numbers_fit n =
      ltb n.above S.codes &&
      ltb n.last S.codes &&
      units_fit n.units n.mark &&
      rows_fit S.most (rows_chosen n.units n.mark) n.above n.last n.live

  -- what a kind of job has to show of its plan: a unit that fills is no row and not the last; a unit that chooses is the next row, and the last
  -- unit exactly where it is the last row; the first row's is the length of none
  pub record ShapeLaws : Type 0 where
    pub none_chosen : S.chosen 0 ≡ 0
    pub fills : (u k source target j : ℕ) → u < S.board_length → S.plan u ≡ fill k source target j
        → (S.chosen (suc u) ≡ S.chosen u) × (suc u < S.board_length)
    pub chooses : (u r source : ℕ) → u < S.board_length → S.plan u ≡ row r source → (S.chosen u ≡ r) × (S.chosen (suc u) ≡ suc r)
    pub goes_on : (u r source : ℕ) → u < S.board_length → S.plan u ≡ row r source → suc r < S.rows → suc u < S.board_length
    pub ends : (u r source : ℕ) → u < S.board_length → S.plan u ≡ row r source → S.rows ≤ suc r → suc u ≡ S.board_length
    pub none : (u source : ℕ) → u < S.board_length → S.plan u ≡ row 0 source → suc u ≡ S.none_length

  -- THE THEOREM of a job's numbers: from numbers of a running job that fit, the next ones fit
  pub record GoesOn (n : Numbers) : Type 0 where
    pub after_entry_lem : (k source target j : ℕ) → S.plan n.units ≡ fill k source target j → numbers_fit (after_entry n) ≡ true
    pub after_row_lem : (r source : ℕ) → S.plan n.units ≡ row r source → (c live : ℕ) → c < S.codes → live ≤ S.most + n.live
        → numbers_fit (after_row S.rows r c live n) ≡ true
    pub after_none_lem : (source : ℕ) → S.plan n.units ≡ row 0 source → numbers_fit (after_none n) ≡ true

  abbrev pub NumbersGoOn : Type 0
  NumbersGoOn = ShapeLaws → (n : Numbers) → numbers_fit n ≡ true → n.mark ≡ 0 → GoesOn n

-- ---- the shapes, for a number of row codes, h rows and the most that a row is worth
-- the whole table is filled, then the rows are chosen
abbrev pub whole : ℕ → ℕ → ℕ → Shape
whole codes h most = record {
  codes = codes;
  entries = h * (codes * codes);
  rows = h;
  plan = Whole.plan h (codes * codes);
  chosen = λ u. u - h * (codes * codes);
  board_length = h * (codes * codes) + h;
  none_length = h * (codes * codes) + 1;
  most = most;
}

-- two layers, filled again before each row
unfoldable pub chosen_from : ℕ → ℕ → ℕ → ℕ
chosen_from q zero u = 0
chosen_from q (suc n) u = cond (leb u (suc n * q)) 0 (suc (chosen_from q n (u - suc (suc n * q))))

abbrev pub two_layers : ℕ → ℕ → ℕ → Shape
two_layers codes h most = record {
  codes = codes;
  entries = 2 * (codes * codes);
  rows = h;
  plan = Two.plan h (codes * codes);
  chosen = chosen_from (codes * codes) h;
  board_length = Two.start_of h (codes * codes) h;
  none_length = h * (codes * codes) + 1;
  most = most;
}

abbrev pub ShapesLawful : Type 0
ShapesLawful = (codes h most : ℕ) → 0 < codes → 0 < h → ShapeLaws (whole codes h most) × ShapeLaws (two_layers codes h most)
