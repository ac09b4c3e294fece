-- A plan that goes in rounds, one for each row: layers are filled, the last layer first, then the row is chosen. The round that a unit is in, and its
-- place there, say what the unit does.
-- Assumes nothing.
use Rattle.std.specs.Prelude.{◌≡◌, false, ℕ, suc, ◌+◌, ◌-◌, ◌*◌, ◌/◌, ◌%◌, ◌≤◌, ◌<◌}
use Rattle.elimination.specs.Task.{Task, fill, is_fill}
use Rattle.elimination.specs.Plan.{Schedule, Scheduled}
use Rattle.elimination.specs.Shape.{Shape}

-- Unit u is at place m of round r: r rows are chosen before it, and m entries are filled of those that come before row r, for a board of h rows. Units
-- past the last row's are in round h.
pub record InRound (h : ℕ) (C : Schedule) (u r m : ℕ) : Type 0 where
  pub rows : r ≤ h
  pub is : u ≡ C.start r + m
  pub within : r < h → m ≤ C.work r

-- what place m of a round fills, with q entries to a layer, where row r's layer starts at `source r`: layer h first, then upward
abbrev pub round_fill : ℕ → ℕ → (ℕ → ℕ) → ℕ → Task
round_fill h q source m = fill (m / q) (source (h - m / q)) (source (h - 1 - m / q)) (m % q)

-- The plan of a shape goes in the rounds of a schedule, with q entries to a layer: each fills whole layers, from the last one on, at most all of them; what it
-- fills and reads lies within the table; and the job ends with the last of them.
pub record Rounds (q : ℕ) (S : Shape) (C : Schedule) : Type 0 where
  pub scheduled : Scheduled S.rows S.plan C
  pub fills : (r m : ℕ) → r < S.rows → m < C.work r → S.plan (C.start r + m) ≡ round_fill S.rows q C.source m
  pub layers : (r : ℕ) → C.work r % q ≡ 0
  pub most : (r : ℕ) → C.work r ≤ S.rows * q
  pub inside : (r : ℕ) → r < S.rows → C.source r + q ≤ S.entries
  pub past : (u : ℕ) → S.board_length ≤ u → is_fill (S.plan u) ≡ false
  pub board : C.start S.rows ≡ S.board_length
  pub none : suc (C.work 0) ≡ S.none_length
