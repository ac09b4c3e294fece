-- Two tables that are equal at the 512 patterns step a board alike.
-- Assumes nothing.
use mathlib.Core.Path.{◌≡◌, ap, fun_ext}
use mathlib.Core.List.{List}
use Prim.Native.Nat.{ℕ, ◌+◌, ◌/◌, ◌%◌, ◌<◌}
use lib.IntN.{pos}
use Rattle.board.specs.Search.{first_not}
use Rattle.board.specs.Boards.{Bytes}
use Rattle.board.specs.Lists.{listed}
use Rattle.life.specs.Calls.{next_at, keeps_at, stepped, judged, ring_size, verdict_at}
use Rattle.life.proofs.OnPlane.{around_small}

module _ (next other : ℕ → ℕ) (same : (p : ℕ) → p < 512 → next p ≡ other p) {w h : ℕ} {cells : List ℕ} (b : Bytes 1 w h cells) where
  at_place : (k : ℕ) → next_at next w h cells k ≡ next_at other w h cells k
  unfolding next_at
  at_place k = same _ (around_small b (pos (k / (w + 2))) (pos (k % (w + 2))))

  next_same : next_at next w h cells ≡ next_at other w h cells
  next_same = fun_ext at_place

  keeps_same : keeps_at next w h cells ≡ keeps_at other w h cells
  unfolding keeps_at
  keeps_same = fun_ext λ k. rw (at_place k)

  pub stepped_same : stepped next w h cells ≡ stepped other w h cells
  unfolding stepped
  stepped_same = ap (λ f. listed f (ring_size w h)) next_same

  pub judged_same : judged next w h cells ≡ judged other w h cells
  unfolding judged
  judged_same = ap (λ f. verdict_at w (first_not f (ring_size w h))) keeps_same
