-- A machine that works in units, whatever they do: how far it comes in m of them, for how many it runs, and where it stays.
-- Assumes nothing.
use Rattle.std.specs.Prelude.{◌≡◌, Bool, true, false, ℕ, zero, suc, ◌+◌, ◌≤◌, ◌<◌, min, leb}

-- a machine, by what one unit of it does
pub record Machine (S : Type 0) : Type 0 where
  -- the next state
  pub unit : S → S
  -- the job is spent
  pub ended : S → Bool
  -- the units done, as the state carries them
  pub done : S → ℕ

module _ {S : Type 0} (M : Machine S) where
  -- the state after m units
  unfoldable pub advance : ℕ → S → S
  advance zero s = s
  advance (suc m) s = advance m (M.unit s)

  -- units add up: m units and then p are m + p
  abbrev pub AdvanceAdd : Type 0
  AdvanceAdd = (m p : ℕ) (s : S) → advance (m + p) s ≡ advance p (advance m s)

  -- from s the machine runs for `long` units, counts them, and then stays as it is
  pub record Lasts (s : S) (long : ℕ) : Type 0 where
    pub running : (m : ℕ) → m < long → M.ended (advance m s) ≡ false
    pub counted : (m : ℕ) → m ≤ long → M.done (advance m s) ≡ m
    pub over : M.ended (advance long s) ≡ true
    pub still : M.unit (advance long s) ≡ advance long s

  -- so long it lasts from s, and it stays at s'
  pub record ComesTo (s s' : S) (long : ℕ) : Type 0 where
    pub lasts : Lasts s long
    pub end : advance long s ≡ s'

  -- after m units of a machine that lasts `long` units from s: the units done, whether it has ended, where it stays, and that each unit moves it
  pub record AfterUnits (s : S) (long m : ℕ) : Type 0 where
    pub done : M.done (advance m s) ≡ min m long
    pub ended : M.ended (advance m s) ≡ leb long m
    pub stays : long ≤ m → advance m s ≡ advance long s
    pub moves : m < long → M.done (M.unit (advance m s)) ≡ suc (M.done (advance m s))

  -- THE THEOREM of a machine that lasts
  abbrev pub LastsAfter : S → ℕ → Type 0
  LastsAfter s long = Lasts s long → (m : ℕ) → AfterUnits s long m
