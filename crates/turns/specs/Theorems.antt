-- Req 07: what is proved of turns: two in a row are one of the eight, and each is undone by one.
-- Assumes nothing.
use Rattle.std.specs.Prelude.{◌≡◌, List, ℕ, ◌*◌, length}
use Rattle.turns.specs.Turn.{Turn, turned_width, turned_height, turned_list, ◌and_then◌, no_turn, inverse}

-- turning by t and then by u is one turn, t and_then u: in its width, its height and its entries, of any type
abbrev pub TurnTwice : Type 1
TurnTwice =
    (t u : Turn) (w h : ℕ) →
    (turned_width u (turned_width t w h) (turned_height t w h) ≡ turned_width (t and_then u) w h) ×
    (turned_height u (turned_width t w h) (turned_height t w h) ≡ turned_height (t and_then u) w h) ×
    ((A : Type 0) (d : A) (xs : List A) → turned_list d u (turned_width t w h) (turned_height t w h) (turned_list d t w h xs) ≡ turned_list d (t and_then u) w h xs)

-- turning by no turn leaves a list of w × h entries as it is, and every turn is undone by its inverse
abbrev pub TurnBack : Type 1
TurnBack =
    (A : Type 0) (d : A) (w h : ℕ) (xs : List A) → length xs ≡ w * h →
    (turned_list d no_turn w h xs ≡ xs) × ((t : Turn) → turned_list d (inverse t) (turned_width t w h) (turned_height t w h) (turned_list d t w h xs) ≡ xs)
