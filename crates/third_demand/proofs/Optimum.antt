-- The board of the rows that row elimination chooses is the wanted board, wherever they are written.
-- Assumes nothing.
use mathlib.Core.Path.{◌≡◌, refl, sym, ◌∙◌, ap, ap₂, subst}
use mathlib.Core.Bool.{Bool}
use mathlib.Core.List.{List, [], ◌∷◌}
use mathlib.Core.Logic.{⊎_elim}
use Prim.Native.Nat.{ℕ, zero, suc, ◌+◌, ◌*◌, ◌-◌, ◌^◌, ◌≤◌, ◌<◌}
use native.Mathlib.Nat.{mul-le-mul_right, mul_comm}
use native.Mathlib.Omega.{arith}
use lib.ListN.{length, get_or, replicate, length-replicate}
use Rattle.board.specs.Boards.{row_digits, SizedBy}
use Rattle.elimination.specs.Kind as Elimination
use Rattle.elimination.specs.Endings.{Ending, total, BestEnding}
use Rattle.elimination.specs.Boards.{rows_from, BoardLaws, BestBoard}
use Rattle.elimination.specs.Completion.{write_rows}
use Rattle.elimination.specs.Rows.{RowWriter}
use Rattle.std.proofs.lemmas.Bool.{cases_lt}
use Rattle.elimination.proofs.Sums.{equal_tied}
use Rattle.elimination.proofs.Endings.{ending_length}
use Rattle.elimination.proofs.Boards.{from_at, board_total, best_board}
use Rattle.rule.specs.Rule.{Allowed}
use Rattle.rule.specs.declared.Rule.{Rule}
use Rattle.job_kind.specs.Kinds.{halves_of, has_target}
use Rattle.job_kind.specs.declared.Kind.{Kind}
use Rattle.third_demand.specs.Grid.{SolutionBy, TargetCells, BoardBy, held_row, count_by, OptimalBy}
use Rattle.third_demand.specs.Units.{grid_rows}
use Rattle.board_rows.specs.Rows.{row_cell, put_row, read_row}
use Rattle.board_rows.proofs.Writing.{written_cell, cell_small}
use Rattle.board_rows.proofs.Theorems.{row_writer}
use Rattle.third_demand.specs.Theorems.{all_rows}
use Rattle.third_demand.proofs.RowLaws.{Place, place}
use Rattle.third_demand.proofs.HeldRows.{digits_le, held_reads, same_held, HeldCells, held_mirrored, solution_board}
use Rattle.third_demand.proofs.Counts.{not_worse}
use Rattle.third_demand.proofs.Endings.{kind_laws, solution_ends, ends_solution, total_count}

-- ---- one row written: the row with r rows above it becomes c
-- a grid's rows stand in its board, with a binary digit for each cell or for each of the left half
pub rows_stand : (halves : Bool) (w : ℕ) → RowWriter w (2 ^ row_digits halves w) (put_row (row_digits halves w) w) (read_row (row_digits halves w) w)
rows_stand halves w = row_writer (row_digits halves w) w (digits_le halves w)

module _ (halves : Bool) (w h r c : ℕ) (β : List ℕ) where
  abbrev put : List ℕ
  put = put_row (row_digits halves w) w r c β

  put_same : r < h → c < 2 ^ row_digits halves w → suc r * w ≤ length β → held_row halves w h put (suc r) ≡ c
  put_same q l f = held_reads halves w h r put q ∙ (rows_stand halves w).back r c β l f

  put_other : (i : ℕ) → i < r → r < h → held_row halves w h put (suc i) ≡ held_row halves w h β (suc i)
  put_other i l q =
      held_reads halves w h i put (omega arith)
      ∙ (rows_stand halves w).alike i put β (λ p a b. ((rows_stand halves w).only r c β).above p (omega (arith, mul-le-mul_right w l)))
      ∙ sym (held_reads halves w h i β (omega arith))

  put_cells : r < h → c < 2 ^ row_digits halves w → suc r * w ≤ length β → HeldCells halves w h β r → HeldCells halves w h put (suc r)
  put_cells q m f S i k l n =
      ⊎_elim
      (λ (e : i < r).
      ((rows_stand halves w).only r c β).above (i * w + k) (omega (arith, mul-le-mul_right w e)) ∙ S i k e n
      ∙ ap (λ (x : ℕ). row_cell (row_digits halves w) x k) (sym (put_other i e q)))
      (λ (e : r ≤ i).
      let s : i ≡ r = omega arith in
      rw (s, put_same q m f) (written_cell (row_cell (row_digits halves w) c) β (r * w) w k n (omega arith)))
      (cases_lt i r)

-- ---- many rows written
-- every row is a row's number
abbrev Below : ℕ → List ℕ → Type 0
Below n [] = Unit {0}
Below n (c ∷ cs) = (c < n) × Below n cs

ends_rows : (G : Elimination.Kind ℕ) (k a b : ℕ) (cs : List ℕ) → Ending G k a b cs → Below G.codes cs
ends_rows G zero a b [] e = tt
ends_rows G zero a b (c ∷ cs) e = absurd e
ends_rows G (suc k) a b [] e = absurd e
ends_rows G (suc k) a b (c ∷ cs) e = (e.0, ends_rows G k b c cs e.2)

module _ (halves : Bool) (w h : ℕ) where
  -- the board once the rows that follow row r are cs
  abbrev put_all : ℕ → List ℕ → List ℕ → List ℕ
  put_all = write_rows (put_row (row_digits halves w) w)

  rows_length : (r : ℕ) (cs β : List ℕ) → length (put_all r cs β) ≡ length β
  unfolding write_rows
  rows_length r [] β = refl
  rows_length r (c ∷ cs) β = rows_length (suc r) cs (put halves w h r c β) ∙ ((rows_stand halves w).only r c β).size

  rows_before_lem : (r : ℕ) (cs β : List ℕ) → r + length cs ≤ h → (i : ℕ) → i < r → held_row halves w h (put_all r cs β) (suc i) ≡ held_row halves w h β (suc i)
  unfolding write_rows
  rows_before_lem r [] β f i l = refl
  rows_before_lem r (c ∷ cs) β f i l = rows_before_lem (suc r) cs (put halves w h r c β) (omega arith) i (omega arith) ∙ put_other halves w h r c β i l (omega arith)

  -- the rows and the board have room for them
  record Room (r : ℕ) (cs β : List ℕ) : Type 0 where
    low : Below (2 ^ row_digits halves w) cs
    high : r + length cs ≤ h
    long : (r + length cs) * w ≤ length β

  room_more : (r c : ℕ) (cs β : List ℕ) → Room r (c ∷ cs) β → Room (suc r) cs (put halves w h r c β)
  room_more r c cs β R =
      let e : r + suc (length cs) ≡ suc r + length cs = omega arith in
      record { low = R.low.1; high = omega (arith, R.high); long = rw ((rows_stand halves w).only r c β).size (rw e at R.long) }

  rows_back : (r : ℕ) (cs β : List ℕ) → Room r cs β → rows_from (held_row halves w h (put_all r cs β)) r (length cs) ≡ cs
  unfolding write_rows rows_from
  rows_back r [] β R = refl
  rows_back r (c ∷ cs) β R =
      let N = room_more r c cs β R in
      ap₂ (λ (x : ℕ) (y : List ℕ). x ∷ y)
      (rows_before_lem (suc r) cs (put halves w h r c β) N.high r (omega arith) ∙ put_same halves w h r c β (omega (arith, R.high)) R.low.0 (omega (arith, R.long)))
      (rows_back (suc r) cs (put halves w h r c β) N)

  rows_cells : (r : ℕ) (cs β : List ℕ) → Room r cs β → HeldCells halves w h β r → HeldCells halves w h (put_all r cs β) (r + length cs)
  unfolding write_rows
  rows_cells r [] β R S = let e : r + 0 ≡ r = omega arith in rw e S
  rows_cells r (c ∷ cs) β R S =
      let e : r + suc (length cs) ≡ suc r + length cs = omega arith in
      rw e (rows_cells (suc r) cs (put halves w h r c β) (room_more r c cs β R)
      (put_cells halves w h r c β (omega (arith, R.high)) R.low.0 (omega (arith, R.long)) S))

-- ---- h rows, written into a board
abbrev pub written_into : Bool → ℕ → List ℕ → List ℕ → List ℕ
written_into halves w cs β = write_rows (put_row (row_digits halves w) w) 0 cs β

-- h rows, as the numbers that they are held as
record RowNumbers (halves : Bool) (w h : ℕ) (cs : List ℕ) : Type 0 where
  low : Below (2 ^ row_digits halves w) cs
  many : length cs ≡ h

module _ {halves : Bool} {w h : ℕ} (z : SizedBy halves w h) {cs : List ℕ} (R : RowNumbers halves w h cs) (β : List ℕ) (size : length β ≡ w * h) where
  all : 0 + length cs ≡ h
  all = omega (arith, R.many)

  room : Room halves w h 0 cs β
  room = record { low = R.low; high = omega (arith, all); long = rw (all, size, mul_comm w h) (omega arith) }

  into_rows : all_rows halves w h (written_into halves w cs β) ≡ cs
  into_rows = subst (λ (k : ℕ). rows_from (held_row halves w h (written_into halves w cs β)) 0 k ≡ cs) R.many (rows_back halves w h 0 cs β room)

  into_cells : HeldCells halves w h (written_into halves w cs β) h
  into_cells = subst (HeldCells halves w h (written_into halves w cs β)) all (rows_cells halves w h 0 cs β room (λ r k l q. absurd (omega arith)))

  into_board : BoardBy halves w h (written_into halves w cs β)
  into_board =
      let long = rows_length halves w h 0 cs β ∙ size in record {
        size = z;
        bytes = record { long = long; states = λ p l. at p (place w h p z.some_column (rw long at l)) };
        mirrored = held_mirrored halves (written_into halves w cs β) z long into_cells;
      }
    where
      at : (p : ℕ) → Place w h p → get_or (written_into halves w cs β) p 0 ≤ 1
      at p q =
          rw (q.is, into_cells q.row q.column q.inside q.narrow)
          (cell_small (row_digits halves w) (held_row halves w h (written_into halves w cs β) (suc q.row)) q.column)

-- a dead board, and the board of the rows cs
abbrev blank : ℕ → ℕ → List ℕ
blank w h = replicate (w * h) 0

abbrev pub board_of : Bool → ℕ → ℕ → List ℕ → List ℕ
board_of halves w h cs = written_into halves w cs (blank w h)

blank_size : (w h : ℕ) → length (blank w h) ≡ w * h
blank_size w h = length-replicate (w * h) 0

-- wherever they are written, the rows make one board
into_same : {halves : Bool} {w h : ℕ} → SizedBy halves w h → {cs : List ℕ} → RowNumbers halves w h cs → (β : List ℕ) → length β ≡ w * h
    → written_into halves w cs β ≡ board_of halves w h cs
into_same {halves} {w} {h} z {cs} R β size =
    let rows = into_rows z R β size ∙ sym (into_rows z R (blank w h) (blank_size w h)) in
    same_held halves (into_board z R β size) (into_board z R (blank w h) (blank_size w h))
    (λ r l. from_at (held_row halves w h (written_into halves w cs β)) (held_row halves w h (board_of halves w h cs)) h 0 rows r (omega arith) (omega arith))

-- ---- the wanted board
module _ (kind : Kind) {rule : Rule} (allowed : Allowed rule) {w h : ℕ} (z : SizedBy (halves_of kind) w h) (g : List ℕ) (T : TargetCells kind w h g) where
  abbrev halves : Bool
  halves = halves_of kind

  rows_of : (cs : List ℕ) → Ending (grid_rows kind rule w h g) h 0 0 cs → RowNumbers halves w h cs
  rows_of cs E = record { low = ends_rows (grid_rows kind rule w h g) h 0 0 cs E; many = ending_length (grid_rows kind rule w h g) h 0 0 cs E }

  board_by : (b : List ℕ) → SolutionBy kind rule w h g b → BoardBy halves w h b
  board_by b S = solution_board kind rule g b z S

  -- a grid's boards are tied to its endings
  pub grid_boards : BoardLaws (grid_rows kind rule w h g) h (held_row halves w h) (SolutionBy kind rule w h g) (count_by (has_target kind) w h g) (board_of halves w h)
  grid_boards = record {
    ends = λ b S. solution_ends kind allowed (board_by b S) g T S;
    solves = λ cs E.
        let R = rows_of cs E in
        ends_solution kind allowed (into_board z R (blank w h) (blank_size w h)) g T (rw (into_rows z R (blank w h) (blank_size w h)) E);
    rows = λ cs E. into_rows z (rows_of cs E) (blank w h) (blank_size w h);
    same = λ a b S S' e. same_held halves (board_by a S) (board_by b S') e;
    counts = λ b S. total_count kind allowed (board_by b S) g T;
  }

  pub grid_into : (cs : List ℕ) → Ending (grid_rows kind rule w h g) h 0 0 cs → (β : List ℕ) → length β ≡ w * h → written_into halves w cs β ≡ board_of halves w h cs
  grid_into cs E = into_same z (rows_of cs E)

  -- the best board is the wanted one
  pub optimal_of : {board : List ℕ} → BestBoard (grid_rows kind rule w h g) h (held_row halves w h) (SolutionBy kind rule w h g) (count_by (has_target kind) w h g) board
      → OptimalBy kind rule w h g board
  optimal_of {board} B = record {
    solution = B.solution;
    unbeaten = λ other S. not_worse (has_target kind) _ _ (B.unbeaten other S);
    earliest = λ other S q. B.earliest other S (equal_tied (has_target kind) q);
  }

  module _ {x : ℕ} {cs : List ℕ} (E : BestEnding (grid_rows kind rule w h g) h 0 0 x cs) where
    pub is_total : count_by (has_target kind) w h g (board_of halves w h cs) ≡ total (grid_rows kind rule w h g) cs
    is_total = board_total grid_boards E

    pub optimal : OptimalBy kind rule w h g (board_of halves w h cs)
    optimal = optimal_of (best_board grid_boards E (kind_laws kind rule w h g z))
