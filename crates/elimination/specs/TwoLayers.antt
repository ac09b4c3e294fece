-- Req 05: the plan over a table of two layers: before row r is chosen, the layers from the last up to row r's are filled again, each over the
-- layer but one below it. The job's length, and its end.
-- Assumes nothing.
use Rattle.std.specs.Prelude.{◌≡◌, cond, List, ℕ, zero, suc, ◌+◌, ◌-◌, ◌*◌, ◌/◌, ◌%◌, ◌≤◌, ◌<◌, ltb, eqb, length}
use Rattle.elimination.specs.Kind.{Kind}
use Rattle.elimination.specs.Endings.{Laws}
use Rattle.elimination.specs.Table.{layer_size}
use Rattle.elimination.specs.Task.{Task, fill, row}
use Rattle.elimination.specs.Job.{Setup}
use Rattle.elimination.specs.Plan.{Schedule}
use Rattle.elimination.specs.Completion.{Completion}

-- where layer i starts: in the half numbered i modulo 2
abbrev pub half : ℕ → ℕ → ℕ
half q i = i % 2 * q

-- unit m of a filling, for a board of h rows with q entries to a layer: layer h first, then upward
abbrev pub fill_in : ℕ → ℕ → ℕ → Task
fill_in h q m = fill (m / q) (half q (h - m / q + 1)) (half q (h - m / q)) (m % q)

-- what unit m does from the filling on that comes before the last n rows: n layers are filled, row h - n is chosen, and so on
unfoldable pub plan_from : ℕ → ℕ → ℕ → ℕ → Task
plan_from h q zero m = row h 0
plan_from h q (suc n) m =
    cond (ltb m (suc n * q)) (fill_in h q m)
    (cond (eqb m (suc n * q)) (row (h - suc n) (half q (h - n))) (plan_from h q n (m - suc (suc n * q))))

abbrev pub plan : ℕ → ℕ → ℕ → Task
plan h q u = plan_from h q h u

-- the unit at which the filling before row r starts
unfoldable pub start_of : ℕ → ℕ → ℕ → ℕ
start_of h q zero = 0
start_of h q (suc r) = suc (start_of h q r + (h - r) * q)

abbrev pub schedule : ℕ → ℕ → Schedule
schedule h q = record { start = start_of h q; work = λ r. (h - r) * q; source = λ r. half q (r + 1) }

-- a job's length: where there is a board, h × (h + 1) ÷ 2 × q + h, and where there is none
pub record Lengths (h q : ℕ) : Type 0 where
  pub board : (schedule h q).start h ≡ h * (h + 1) / 2 * q + h
  pub none : suc ((schedule h q).work 0) ≡ h * q + 1

module _ {X B : Type 0} (G : Kind X) (h : ℕ) (write : ℕ → ℕ → B → B) where
  abbrev pub two_layers : Setup X B
  two_layers = record { kind = G; height = h; write = write; plan = plan h (layer_size G) }

  -- THE THEOREM of this plan: the job comes to its end, from any table of two layers or more and any board
  abbrev pub TwoLayersComplete : Type 0
  TwoLayersComplete = Laws G h → 0 < h → 0 < G.codes → (t : List X) → 2 * layer_size G ≤ length t → (β : B)
      → Completion two_layers (schedule h (layer_size G)) t β
