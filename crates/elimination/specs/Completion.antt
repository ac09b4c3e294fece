-- How a job comes to its end, from any table and board: with the wanted board, or with none where there is none. The theorem of a job whose plan
-- is sound.
-- Assumes nothing.
use Rattle.std.specs.Prelude.{List, [], ◌∷◌, ℕ, zero, suc, ◌<◌, length}
use Rattle.elimination.specs.Kind.{Kind, right_entry, right_rows}
use Rattle.elimination.specs.Endings.{NoEnding, total, BestEnding, Laws}
use Rattle.elimination.specs.Task.{Task}
use Rattle.elimination.specs.Machine.{ComesTo}
use Rattle.elimination.specs.Job.{finished, infeasible, State, Setup, opened, machine}
use Rattle.elimination.specs.Plan.{Schedule, after_filling, SoundPlan}

-- the row above, once the rows cs stand below a over b
unfoldable pub row_above : ℕ → ℕ → List ℕ → ℕ
row_above a b [] = a
row_above a b (c ∷ cs) = row_above b c cs

-- the last row, once the rows cs stand below b
unfoldable pub row_last : ℕ → List ℕ → ℕ
row_last b [] = b
row_last b (c ∷ cs) = row_last c cs

-- what x comes to with the rows cs, the first of them added first
unfoldable pub add_rows : {X : Type 0} → Kind X → List ℕ → X → X
add_rows G [] x = x
add_rows G (c ∷ cs) x = add_rows G cs (G.add (length cs) c x)

-- the board once the rows cs are written from row r on
unfoldable pub write_rows : {B : Type 0} → (ℕ → ℕ → B → B) → ℕ → List ℕ → B → B
write_rows write r [] β = β
write_rows write r (c ∷ cs) β = write_rows write (suc r) cs (write r c β)

-- the table once k more rows are chosen, from row r on
unfoldable pub after_rows : {X : Type 0} → Kind X → (ℕ → Task) → Schedule → ℕ → ℕ → List X → List X
after_rows G plan S zero r t = t
after_rows G plan S (suc k) r t = after_rows G plan S k (suc r) (after_filling G plan S r t)

module _ {X B : Type 0} (J : Setup X B) where
  -- the rows that right entries choose for the whole board
  abbrev pub board_rows : List ℕ
  board_rows = right_rows J.kind J.height 0 0

  -- the right entry for the whole board
  abbrev pub board_worth : X
  board_worth = right_entry J.kind J.height 0 0

module _ {X B : Type 0} (J : Setup X B) (S : Schedule) where
  -- the end of a job that has a board, from the table t and the board β
  abbrev pub board_end : List X → B → State X B
  board_end t β = record {
    units = S.start J.height;
    above = row_above 0 0 (board_rows J);
    last = row_last 0 (board_rows J);
    so_far = total J.kind (board_rows J);
    mark = finished;
    table = after_rows J.kind J.plan S J.height 0 t;
    board = write_rows J.write 0 (board_rows J) β;
  }

  -- the end of a job that has none: one unit after the first filling, board unwritten
  abbrev pub none_end : List X → B → State X B
  none_end t β = record {
    units = suc (S.work 0);
    above = 0;
    last = 0;
    so_far = J.kind.start;
    mark = infeasible;
    table = after_filling J.kind J.plan S 0 t;
    board = β;
  }

  -- the opened job comes to its end: there is a board, and it comes to the wanted one; or there is none, and it says so
  pub data Completion (t : List X) (β : B) : Type 0 where
    to_board : BestEnding J.kind J.height 0 0 (board_worth J) (board_rows J)
        → ComesTo (machine J) (opened J.kind t β) (board_end t β) (S.start J.height) → Completion t β
    to_none : NoEnding J.kind J.height 0 0 → ComesTo (machine J) (opened J.kind t β) (none_end t β) (suc (S.work 0)) → Completion t β

  -- THE THEOREM of a job: by a sound plan it comes to its end, from any board and any table that is ready for the first row
  abbrev pub JobCompletes : Type 1
  JobCompletes = Laws J.kind J.height → 0 < J.height → 0 < J.kind.codes → (P : SoundPlan J.kind J.height J.plan S)
      → (t : List X) → P.Ready 0 t → (β : B) → Completion t β
