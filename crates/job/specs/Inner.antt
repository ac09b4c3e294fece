-- What the inner functions answer.
-- Assumes nothing.
use Rattle.std.specs.Prelude.{◌≡◌, ℕ, ◌+◌, ◌≤◌, ◌<◌}
use Rattle.elimination.specs.Rounds.{InRound}
use Rattle.job_kind.specs.Kinds.{round_work, course_of}
use Rattle.job_kind.specs.declared.Kind.{Kind}
use Rattle.job.specs.declared.shape.Round.{Round}

-- the round of unit u of a job, and the entries that are left to fill in it; past the last row there is none
pub record RoundIs (kind : Kind) (w h u : ℕ) (x : Round) : Type 0 where
  pub at : InRound h (course_of kind w h) u x.rows x.place
  pub rest : x.rows < h → x.place + x.left ≡ round_work kind w h x.rows
  pub past : h ≤ x.rows → x.left ≡ 0
