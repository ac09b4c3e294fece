-- Document 01, "Turned away": answers in the paper's numbers, the order of checks, and what a refused call leaves.
-- Assumes nothing.
use Rattle.std.specs.Prelude.{◌≡◌, Bool, cond, List, [], ◌∷◌, ◌++◌, ℕ, codes, decimal, Option, None, Some, Result, Ok, Err}
use Rattle.board.specs.declared.Refusal.{Refusal}
use Rattle.board.specs.declared.Refusal.TheVariants.{Width, Height, GivensLength, Mark, BoardLength, ShortTable, Checkpoint, Letter, SpoiledTable, ShortOutput, Cell, LongText, Rule, EdgeThree, Lopsided}

-- an answer in the paper's terms: the values that a call gives, or a refusal's number and the values that come with it
pub data Answer : Type 0 where
  gives : List ℕ → Answer
  refuses : ℕ → List ℕ → Answer

-- ---- the table of refusals
-- a refusal's number. The paper's words are Width, Height, Grid length, Mark, Board length, Short table, Ticket (`Checkpoint`), Letter,
-- Spoiled table, Short output, Cell, Long text, Req 02's Rule, Req 04's Edge three and Req 06's Lopsided
abbrev pub number_of : Refusal → ℕ
number_of Width = 1
number_of Height = 2
number_of GivensLength = 3
number_of (Mark place) = 4
number_of BoardLength = 5
number_of ShortTable = 6
number_of Checkpoint = 7
number_of (Letter place) = 8
number_of SpoiledTable = 9
number_of ShortOutput = 10
number_of (Cell place) = 11
number_of LongText = 12
number_of Rule = 13
number_of (EdgeThree place) = 14
number_of (Lopsided place) = 15

-- and its values: the first place, from 0, of a mark, a letter, a cell, the middle of an edge three or a mark that differs from its reflection
abbrev pub values_of : Refusal → List ℕ
values_of Width = []
values_of Height = []
values_of GivensLength = []
values_of (Mark place) = place ∷ []
values_of BoardLength = []
values_of ShortTable = []
values_of Checkpoint = []
values_of (Letter place) = place ∷ []
values_of SpoiledTable = []
values_of ShortOutput = []
values_of (Cell place) = place ∷ []
values_of LongText = []
values_of Rule = []
values_of (EdgeThree place) = place ∷ []
values_of (Lopsided place) = place ∷ []

-- how a place is printed after the number: nothing where there is none
abbrev pub place_text : List ℕ → List ℕ
place_text [] = []
place_text (place ∷ rest) = codes " at " ++ decimal place

-- a refusal as programs print it: its number in decimal digits, and its place where it has one
abbrev pub refusal_text : Refusal → List ℕ
refusal_text r = decimal (number_of r) ++ place_text (values_of r)

abbrev pub refusal_says : Refusal → Answer
refusal_says r = refuses (number_of r) (values_of r)

-- a result says the values that it gives, or its refusal
abbrev pub says : {T : Type 0} → (T → List ℕ) → Result T Refusal → Answer
says values (Ok x) = gives (values x)
says values (Err r) = refusal_says r

-- ---- checks
-- a check that turns nothing away
abbrev pub passed : Answer
passed = gives []

abbrev pub check_says : Result Unit Refusal → Answer
check_says = says (λ u. [])

-- checks in their order: the first that refuses decides
infixr 30 ◌then◌
abbrev pub ◌then◌ : Answer → Answer → Answer
gives values then rest = rest
refuses n values then rest = refuses n values

-- refusal n unless a condition holds
abbrev pub refuse_unless : Bool → ℕ → Answer
refuse_unless holds n = cond holds passed (refuses n [])

-- refusal n with a place, where there is one
abbrev pub refuse_at : Option ℕ → ℕ → Answer
refuse_at None n = passed
refuse_at (Some place) n = refuses n (place ∷ [])

-- what a check says that never answers n: nothing, or another refusal
abbrev pub Checked : ℕ → Answer → Type 0
Checked n (gives values) = values ≡ []
Checked n (refuses m values) = m ≡ n → ⊥

-- ---- lent memory
-- what a lent buffer holds after a call: what the call writes, or what it held before where the call is refused
abbrev pub after : Answer → List ℕ → List ℕ → List ℕ
after (gives values) written held = written
after (refuses n values) written held = held
