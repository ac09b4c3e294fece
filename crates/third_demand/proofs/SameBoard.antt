-- An ordinary job and one of two layers come to the same board: there is one wanted board, and each comes to it.
-- Assumes nothing.
use mathlib.Core.Path.{◌≡◌, sym, ◌∙◌, ap}
use mathlib.Core.Bool.{Bool, true, false}
use mathlib.Core.List.{List}
use mathlib.Core.Logic.{◌⊎◌, inl, inr, ⊎_elim}
use Prim.Native.Nat.{ℕ, ◌≤◌, ◌<◌}
use native.Mathlib.Omega.{arith}
use native.Mathlib.Nat.{le_antisymm}
use borrow.Author.Tests.{ltb-true}
use Rattle.elimination.specs.Order.{row_before}
use Rattle.elimination.specs.Boards.{Earlier}
use Rattle.std.proofs.lemmas.Bool.{cases_lt}
use Rattle.rule.specs.declared.Rule.{Rule}
use Rattle.service.specs.Demand.{Call, Aim, Served, Outcome}
use Rattle.service.specs.Demand as Shared
use Rattle.service.specs.JobKinds.{Best, aim_of}
use Rattle.service.specs.Service.{finished}
use Rattle.job_kind.specs.declared.Kind.{Kind}
use Rattle.third_demand.specs.Grid.{Precedes, BestAmong, score}
use Rattle.third_demand.specs.Units.{State, grid}
use Rattle.third_demand.specs.Demand.{grid_kind, ThirdDemand}
use Rattle.third_demand.specs.Lent.{lent_state}
use Rattle.third_demand.specs.Theorems.{Alike, solved, unsolvable, SameBoard}
use Rattle.third_demand.proofs.Counts.{no_better_both}
use Rattle.third_demand.proofs.Third.{third_demand}

-- a row that comes before another isn't equal to it, nor does the other come before it
not_before : (greater_first : Bool) (c d : ℕ) → row_before greater_first c d ≡ true → (d ≡ c) ⊎ (row_before greater_first d c ≡ true) → ⊥
not_before true c d p (inl e) = omega (arith, ltb-true d c p, e)
not_before true c d p (inr q) = omega (arith, ltb-true d c p, ltb-true c d q)
not_before false c d p (inl e) = omega (arith, ltb-true c d p, e)
not_before false c d p (inr q) = omega (arith, ltb-true c d p, ltb-true d c q)

-- no two boards come before each other
never_both : {greater_first : Bool} {h : ℕ} {row other : ℕ → ℕ} → Earlier greater_first h row other → Earlier greater_first h other row → ⊥
never_both {greater_first} {h} {row} {other} P Q =
    ⊎_elim (λ (l : P.place < Q.place). not_before greater_first _ _ P.decides (inl (Q.equal P.place l)))
    (λ (l : Q.place ≤ P.place).
    ⊎_elim (λ (m : Q.place < P.place). not_before greater_first _ _ Q.decides (inl (P.equal Q.place m)))
    (λ (m : P.place ≤ Q.place). same (le_antisymm m l)) (cases_lt Q.place P.place))
    (cases_lt P.place Q.place)
  where
    same : P.place ≡ Q.place → ⊥
    same e = not_before greater_first _ _ (rw e at P.decides) (inr Q.decides)

-- there is one wanted board
pub one_best : {halves fewest greater_first : Bool} {Sought : List ℕ → Type 0} {count : List ℕ → ℕ} {w h : ℕ} {board other : List ℕ}
    → BestAmong halves fewest greater_first Sought count w h board → BestAmong halves fewest greater_first Sought count w h other → other ≡ board
one_best {halves} {fewest} {greater_first} {Sought} {count} {w} {h} {board} {other} B O =
    let e = no_better_both fewest (count other) (count board) (B.unbeaten other O.solution) (O.unbeaten board B.solution) in
    go (B.earliest other O.solution e) (O.earliest board B.solution (sym e))
  where
    go : (other ≡ board) ⊎ Precedes halves greater_first w h board other → (board ≡ other) ⊎ Precedes halves greater_first w h other board → other ≡ board
    go (inl p) q = p
    go (inr p) (inl q) = sym q
    go (inr p) (inr q) = absurd (never_both p q)

module _ (rule : Rule) (w h : ℕ) (g : List ℕ) (calls calls' : List (Call grid)) (s s' : State) where
  abbrev A : Aim (List ℕ)
  A = aim_of (grid_kind Kind.Ordinary rule w h g)

  abbrev A' : Aim (List ℕ)
  A' = aim_of (grid_kind Kind.TwoLayers rule w h g)

  -- the two kinds want the same board
  alike : Outcome grid A calls s → Outcome grid A' calls' s' → Alike A A' calls calls' s s'
  alike (Shared.solved best final W S) (Shared.solved best' final' W' S') = both (one_best W.wanted W'.wanted) W W' S'
    where
      both : best' ≡ best → Best (grid_kind Kind.Ordinary rule w h g) best final → Best (grid_kind Kind.TwoLayers rule w h g) best' final'
          → Served grid A' A'.board_length final' best' calls' s' → Alike A A' calls calls' s s'
      both e W W' S' =
          let f : final' ≡ final = W'.says ∙ ap (λ (b : List ℕ). finished (score w h g b)) e ∙ sym W.says in
          let T : Served grid A' A'.board_length final best calls' s' = rw (e, f) at S' in
          solved best final W S T (λ l l'. S.board l ∙ sym (T.board l'))
  alike (Shared.solved best final W S) (Shared.unsolvable none S') = absurd (none best W.wanted.solution)
  alike (Shared.unsolvable none S) (Shared.solved best' final' W' S') = absurd (none best' W'.wanted.solution)
  alike (Shared.unsolvable none S) (Shared.unsolvable none' S') = unsolvable none S S'

pub same_board : SameBoard
unfolding ThirdDemand
same_board rule w h g t β t' β' r r' j j' O e O' e' calls calls' fair fair' =
    alike rule w h g calls calls' (lent_state j t β) (lent_state j' t' β')
    (third_demand Kind.Ordinary rule w h g t β r j O e calls fair) (third_demand Kind.TwoLayers rule w h g t' β' r' j' O' e' calls' fair')
