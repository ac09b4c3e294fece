-- All eight turns from two: what holds of the two reflections, left-right and in the diagonal, and of two turns in a row where it holds of each, holds of all.
-- Assumes nothing.
use mathlib.Core.Bool.{Bool, true, false}
use Rattle.turns.specs.Turn.{Quarters, none, once, twice, thrice, Turn, reflection, diagonal, ◌and_then◌}

module _ (Q : Turn → Type 0) (m : Q reflection) (d : Q diagonal) (both : (t u : Turn) → Q t → Q u → Q (t and_then u)) where
  unturned : (f : Bool) → Q (record { reflected = f; quarters = none })
  unturned true = m
  unturned false = both reflection reflection m m

  -- a quarter turn is the diagonal and then left-right
  more : (t : Turn) → Q t → Q (t and_then (diagonal and_then reflection))
  more t p = both t (diagonal and_then reflection) p (both diagonal reflection d m)

  pub every_turn : (t : Turn) → Q t
  every_turn t = go t.quarters
    where
      first : Q (record { reflected = t.reflected; quarters = once })
      first = more (record { reflected = t.reflected; quarters = none }) (unturned t.reflected)

      second : Q (record { reflected = t.reflected; quarters = twice })
      second = more (record { reflected = t.reflected; quarters = once }) first

      go : (a : Quarters) → Q (record { reflected = t.reflected; quarters = a })
      go none = unturned t.reflected
      go once = first
      go twice = second
      go thrice = more (record { reflected = t.reflected; quarters = twice }) second
