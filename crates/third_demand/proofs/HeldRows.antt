-- Rows by how they are held: the number that a row is held as stands for the row, where rows are held as their left halves too, and so a board is its
-- numbers. And what a solution of a job of any kind shows.
-- Assumes nothing.
use mathlib.Core.Path.{◌≡◌, refl, sym, ◌∙◌, ap}
use mathlib.Core.Bool.{Bool, true, false, cond, false≢true}
use mathlib.Core.List.{List}
use mathlib.Core.Logic.{⊎_elim}
use Prim.Native.Nat.{ℕ, zero, suc, ◌+◌, ◌*◌, ◌-◌, ◌/◌, ◌%◌, ◌^◌, ◌≤◌, ◌<◌}
use native.Mathlib.Nat.{zero-div}
use native.Mathlib.Omega.{arith}
use lib.Dec.{ltb}
use lib.ListN.{length, get_or}
use lib.Pow.{pow_pos}
use Rattle.board.specs.Boards.{row_digits, SizedBy, Bytes}
use Rattle.board.specs.Lists.{listed}
use Rattle.board.proofs.Lists.{get_d_listed}
use Rattle.board.proofs.Tests.{among_yes}
use Rattle.elimination.specs.Boards.{previous_row}
use Rattle.std.proofs.lemmas.Bool.{cases_lt}
use Rattle.mirror.specs.Mirror.{Mirrored}
use Rattle.mirror.proofs.Theorems.{mirrored_cells}
use Rattle.rule.specs.declared.Rule.{Rule}
use Rattle.job_kind.specs.Kinds.{halves_of, has_target}
use Rattle.job_kind.specs.declared.Kind.{Kind}
use Rattle.life.specs.Plane.{on_plane, Still, LeadsTo}
use Rattle.life.specs.Rows.{row_number, row_of, digit_at}
use Rattle.life.proofs.OnPlane.{state_small}
use Rattle.life.proofs.Rows.{number_lt, cell_is}
use Rattle.board_rows.specs.Rows.{row_cell, read_row}
use Rattle.board_rows.proofs.Writing.{cell_left, digits_read}
use Rattle.board_rows.proofs.Theorems.{reads_as_row, row_reflects}
use Rattle.score_table.specs.Rows.{marks_of, whole_row, row_for}
use Rattle.score_table.specs.ScoreTable.{want_of}
use Rattle.score_table.proofs.WholeRows.{whole_lt, whole_cell}
use Rattle.third_demand.specs.Grid.{KeepsGivens, Solution, SolutionBy, BoardBy, half_of, held_row}
use Rattle.third_demand.proofs.RowLaws.{row_none, same_rows}

-- ---- the number that a row is held as
-- it has a digit for each of the row's cells, or of its left half
pub digits_le : (halves : Bool) (w : ℕ) → row_digits halves w ≤ w
digits_le true w = omega arith
digits_le false w = omega arith

pub held_none : (halves : Bool) (w h : ℕ) (cells : List ℕ) → held_row halves w h cells 0 ≡ 0
unfolding half_of
held_none true w h cells = refl
held_none false w h cells = row_none w h cells

-- it is read from the row's first cells
pub held_reads : (halves : Bool) (w h r : ℕ) (cells : List ℕ) → r < h → held_row halves w h cells (suc r) ≡ read_row (row_digits halves w) w r cells
unfolding half_of
held_reads true w h r cells l =
    let e : suc r - 1 ≡ r = omega arith in
    rw (among_yes h (suc r) (omega arith) l) (ap (λ (x : ℕ). row_number cells (x * w) (w / 2)) e)
held_reads false w h r cells l = reads_as_row w h r cells l

pub held_lt : (halves : Bool) {w h : ℕ} {cells : List ℕ} → Bytes 1 w h cells → (r : ℕ) → r < h → held_row halves w h cells (suc r) < 2 ^ row_digits halves w
held_lt halves {w} {h} {cells} b r l = rw (held_reads halves w h r cells l) (number_lt cells (state_small b) (r * w) (row_digits halves w))

-- ---- the row that it stands for
-- by how rows are held: any other want that holds them so says the same
abbrev pub stands_for : Bool → ℕ → ℕ → ℕ
stands_for halves w c = row_for (want_of halves false) w c

-- 0 stands for the dead row
dead_cell : (bits k : ℕ) → row_cell bits 0 k ≡ 0
dead_cell bits k = go (ltb k bits)
  where
    go : (t : Bool) → cond t (digit_at 0 (bits - (k + 1))) (digit_at 0 (k - bits)) ≡ 0
    go true = rw (zero-div (2 ^ (bits - (k + 1))))
    go false = rw (zero-div (2 ^ (k - bits)))

whole_none : (w : ℕ) → whole_row w 0 ≡ 0
unfolding whole_row
whole_none w =
    digits_read w 0 (pow_pos w) (listed (row_cell (w / 2) 0) w) 0
    (λ k l.
    let z : 0 + k ≡ k = omega arith in
    rw (z, get_d_listed (row_cell (w / 2) 0) w k l, dead_cell (w / 2) k, zero-div (2 ^ (w - (k + 1)))))

row_for_none : (halves : Bool) (w : ℕ) → stands_for halves w 0 ≡ 0
row_for_none true w = whole_none w
row_for_none false w = refl

-- the left half of a mirror board's row stands for the row
module _ {w h : ℕ} {cells : List ℕ} (even : w % 2 ≡ 0) (b : Bytes 1 w h cells) (M : Mirrored w h cells) (r : ℕ) (inside : r < h) where
  abbrev half : ℕ
  half = read_row (w / 2) w r cells

  half_left : (k : ℕ) → k < w / 2 → row_cell (w / 2) half k ≡ get_or cells (r * w + k) 0
  half_left k l =
      let e : k + 1 - 1 ≡ k = omega arith in
      cell_left (w / 2) half k l ∙ rw e at (cell_is cells (state_small b) (r * w) (w / 2) (k + 1) (omega arith) (omega arith))

  half_cell : (k : ℕ) → k < w → row_cell (w / 2) half k ≡ get_or cells (r * w + k) 0
  half_cell k l =
      ⊎_elim (λ (q : k < w / 2). half_left k q)
      (λ (q : w / 2 ≤ k).
      let e : 2 * (w / 2) - (k + 1) ≡ w - 1 - k = omega arith in
      sym (rw e at (row_reflects (w / 2) half k (omega arith))) ∙ half_left (w - 1 - k) (omega arith) ∙ (mirrored_cells w h cells b.long).0 M r k inside l)
      (cases_lt k (w / 2))

  whole_half : whole_row w half ≡ row_number cells (r * w) w
  whole_half = sym (digits_read w (whole_row w half) (whole_lt w half) cells (r * w) (λ k l. sym (half_cell k l) ∙ sym (whole_cell w half k l)))

pub row_held : (halves : Bool) {w h : ℕ} {cells : List ℕ} → BoardBy halves w h cells → (r : ℕ) → r ≤ h → stands_for halves w (held_row halves w h cells r) ≡ row_of w h cells r
row_held true {w} {h} {cells} B zero l = rw (held_none true w h cells, row_none w h cells) (whole_none w)
row_held true {w} {h} {cells} B (suc r) l =
    rw (held_reads true w h r cells l, reads_as_row w h r cells l) (whole_half (B.size.width.even refl) B.bytes (B.mirrored refl) r l)
row_held false B r l = refl

pub previous_held : (halves : Bool) {w h : ℕ} {cells : List ℕ} → BoardBy halves w h cells → (r : ℕ) → r ≤ h
    → stands_for halves w (previous_row (held_row halves w h cells) r) ≡ previous_row (row_of w h cells) r
previous_held halves {w} B zero l = row_for_none halves w
previous_held halves B (suc r) l = row_held halves B r (omega arith)

-- so a board is its numbers
pub same_held : (halves : Bool) {w h : ℕ} {cells others : List ℕ} → BoardBy halves w h cells → BoardBy halves w h others
    → ((r : ℕ) → r < h → held_row halves w h cells (suc r) ≡ held_row halves w h others (suc r)) → cells ≡ others
same_held halves {w} B O e =
    same_rows B.size.some_column B.bytes O.bytes
    (λ r l. sym (row_held halves B (suc r) l) ∙ ap (stands_for halves w) (e r l) ∙ row_held halves O (suc r) l)

-- each cell of the first n rows is the one that its row's number has there; a board of such rows is a mirror board where they are held as left halves
abbrev pub HeldCells : Bool → ℕ → ℕ → List ℕ → ℕ → Type 0
HeldCells halves w h cells n = (r k : ℕ) → r < n → k < w → get_or cells (r * w + k) 0 ≡ row_cell (row_digits halves w) (held_row halves w h cells (suc r)) k

pub held_mirrored : (halves : Bool) {w h : ℕ} (cells : List ℕ) → SizedBy halves w h → length cells ≡ w * h → HeldCells halves w h cells h → halves ≡ true → Mirrored w h cells
held_mirrored true {w} {h} cells z long S _ =
    (mirrored_cells w h cells long).1
    (λ r k l q.
    let even = z.width.even refl in
    let e : 2 * (w / 2) - (k + 1) ≡ w - 1 - k = omega (arith, even) in
    S r (w - 1 - k) l (omega arith) ∙ rw e at (row_reflects (w / 2) (held_row true w h cells (suc r)) k (omega (arith, even))) ∙ sym (S r k l q))
held_mirrored false cells z long S e = absurd (false≢true e)

-- ---- solutions, by the kind of job
-- what a solution shows: one step makes it the target, or itself where there is none, and it keeps the givens, of which there are none with a target
pub record Comes (target : Bool) (rule : Rule) (w h : ℕ) (g board : List ℕ) : Type 0 where
  pub leads : LeadsTo rule (on_plane w h board) (on_plane w h (cond target g board))
  pub keeps : KeepsGivens w h (marks_of target g) board

module _ {rule : Rule} {w h : ℕ} {g board : List ℕ} where
  still_comes : Solution rule w h g board → Comes false rule w h g board
  unfolding Still LeadsTo
  still_comes S = record { leads = S.still; keeps = S.keeps }

  comes_still : Bytes 1 w h board → Comes false rule w h g board → Solution rule w h g board
  unfolding Still LeadsTo
  comes_still b C = record { bytes = b; still = C.leads; keeps = C.keeps }

  pub comes : (kind : Kind) → SolutionBy kind rule w h g board → Comes (has_target kind) rule w h g board
  comes Kind.Ordinary S = still_comes S
  comes Kind.TwoLayers S = still_comes S
  comes Kind.Mirror S = still_comes S.solution
  comes Kind.Predecessor S = record { leads = S.leads; keeps = record { dead = λ p l e. absurd (omega arith); live = λ p l e. absurd (omega arith) } }

  pub solution_of : (kind : Kind) → BoardBy (halves_of kind) w h board → Comes (has_target kind) rule w h g board → SolutionBy kind rule w h g board
  solution_of Kind.Ordinary B C = comes_still B.bytes C
  solution_of Kind.TwoLayers B C = comes_still B.bytes C
  solution_of Kind.Mirror B C = record { solution = comes_still B.bytes C; mirrored = B.mirrored refl }
  solution_of Kind.Predecessor B C = record { bytes = B.bytes; leads = C.leads }

whole_board : {w h : ℕ} {board : List ℕ} → SizedBy false w h → Bytes 1 w h board → BoardBy false w h board
whole_board z b = record { size = z; bytes = b; mirrored = λ e. absurd (false≢true e) }

pub solution_board : (kind : Kind) (rule : Rule) {w h : ℕ} (g board : List ℕ) → SizedBy (halves_of kind) w h → SolutionBy kind rule w h g board → BoardBy (halves_of kind) w h board
solution_board Kind.Ordinary rule g board z S = whole_board z S.bytes
solution_board Kind.TwoLayers rule g board z S = whole_board z S.bytes
solution_board Kind.Mirror rule g board z S = record { size = z; bytes = S.solution.bytes; mirrored = λ _. S.mirrored }
solution_board Kind.Predecessor rule g board z S = whole_board z S.bytes
