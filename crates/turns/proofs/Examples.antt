-- The examples of `specs/Examples`, by computing.
-- Assumes nothing.
use mathlib.Core.Path.{refl}
use Rattle.board.specs.Lists.{listed}
use Rattle.turns.specs.Turn.{source, turned_list}
use Rattle.turns.specs.Examples.{Examples}

pub examples : Examples
unfolding listed source turned_list
examples = record {
  none_of_them = refl;
  clockwise = refl;
  half = refl;
  counterclockwise = refl;
  left_right = refl;
  rising = refl;
  top_bottom = refl;
  falling = refl;
  signed = refl;
  two_quarters = refl;
  quarter_first = refl;
  reflect_first = refl;
}
