-- What calls answer of a grid and of the turned grid: each answer of a job that has ended says the grid's best score, and there is one.
-- Assumes nothing.
use mathlib.Core.Path.{◌≡◌, refl, sym, ◌∙◌, ap}
use mathlib.Core.Bool.{Bool, true, false, cond, false≢true}
use Rattle.std.specs.Prelude.{Option, None, Some}
use mathlib.Core.List.{List, [], ◌∷◌}
use mathlib.Core.Logic.{◌↔◌, inl, inr}
use Prim.Native.Nat.{ℕ}
use native.Mathlib.Decide.{dec_lt}
use native.Mathlib.Omega.{arith}
use Rattle.board.specs.Answers.{Answer, gives, refuses, passed, refuse_unless, refuse_at, ◌then◌}
use Rattle.board.specs.Boards.{Givens}
use Rattle.board.specs.Checks.{givens_check}
use Rattle.board.proofs.Answers.{refuses_none}
use Rattle.board.proofs.Checks.{size_passes, checks_right}
use Rattle.rule.specs.Rule.{rule_fits, rule_check, grid_check}
use Rattle.rule.specs.declared.Rule.{Rule}
use Rattle.edges.specs.Edges.{first_edge_three, born_on3, edge_check}
use Rattle.job_kind.specs.Kinds.{has_target, read_check}
use Rattle.job.specs.Jobs.{open_rule}
use Rattle.job_kind.specs.declared.Kind.{Kind}
use Rattle.service.specs.Service.{unfinished, finished, infeasible, work_of}
use Rattle.service.specs.Demand.{Call, work, pause, resume, after_call, Each, Answers, Outcome, solved, unsolvable}
use Rattle.service.specs.JobKinds.{aim_of}
use Rattle.third_demand.specs.Grid.{SolutionBy, OptimalBy, count_by}
use Rattle.third_demand.specs.Units.{State, grid}
use Rattle.third_demand.specs.Demand.{grid_kind, ThirdDemand}
use Rattle.third_demand.proofs.Third.{third_demand}
use Rattle.runner.specs.Solving.{memory_check, solve_check, Ends, SolvesTo}
use Rattle.runner.specs.Solving as Solving
use Rattle.turns.specs.Turn.{Turn, turned_width, turned_height, turned_bytes}
use Rattle.turned_grids.specs.Grids.{Turnable, BestScore, best, no_board}
use Rattle.turned_grids.specs.Calls.{OfAllBoards, refusal_in, SameOpening, last_answer, SameOutcome, Said, FairCalls, SameAnswer, SameButPlace, SameSolved}
use Rattle.turned_grids.proofs.Grids.{grid_turned, same_best}
use Rattle.turned_grids.proofs.EdgeThrees.{edges_turned}

-- ---- opening
-- of a grid that may be turned, opening can refuse the rule and an edge three alone
givens_pass : {w h : ℕ} {g : List ℕ} → Givens w h g → givens_check w h g ≡ passed
givens_pass {w} {h} {g} G = rw (size_passes G.size) at ((checks_right.3 w h g).1 G)

then_gives_last : (a b : Answer) (values : List ℕ) → refusal_in (a then (b then passed) then gives values) ≡ refusal_in (a then b)
then_gives_last (gives us) (gives vs) values = refl
then_gives_last (gives us) (refuses n vs) values = refl
then_gives_last (refuses n us) b values = refl

opening_refusal : (kind : Kind) → OfAllBoards kind → (rule : Rule) {w h : ℕ} {g : List ℕ} → Givens w h g
    → refusal_in (open_rule kind rule w h g) ≡ refusal_in (rule_check rule then edge_check rule w h g)
unfolding open_rule grid_check read_check
opening_refusal kind k rule {w} {h} {g} G = rw (k.whole, k.givens, size_passes G.size, givens_pass G) (then_gives_last (rule_check rule) (edge_check rule w h g) _)

both_or_neither : (o o' : Option ℕ) (n : ℕ) → refuse_at o n ≡ passed ↔ refuse_at o' n ≡ passed → refusal_in (refuse_at o n) ≡ refusal_in (refuse_at o' n)
both_or_neither None None n f = refl
both_or_neither None (Some p) n f = absurd (refuses_none (f.0 refl))
both_or_neither (Some p) None n f = absurd (refuses_none (f.1 refl))
both_or_neither (Some p) (Some q) n f = refl

then_same : (a b c : Answer) → refusal_in b ≡ refusal_in c → refusal_in (a then b) ≡ refusal_in (a then c)
then_same (gives us) b c e = e
then_same (refuses n us) b c e = refl

-- the place that the check of edge threes answers
abbrev edge_found : Rule → ℕ → ℕ → List ℕ → Option ℕ
edge_found rule w h g = cond (born_on3 rule) (first_edge_three w h g) None

pub same_opening : SameOpening
unfolding edge_check
same_opening kind kind' k k' rule t w h g T =
    let W = turned_width t w h in
    let H = turned_height t w h in
    let tg = turned_bytes t w h g in
    opening_refusal kind k rule T.grid
    ∙ then_same (rule_check rule) (edge_check rule w h g) (edge_check rule W H tg)
    (both_or_neither (edge_found rule w h g) (edge_found rule W H tg) 14 (edges_turned rule t w h g T.grid.bytes.long))
    ∙ sym (opening_refusal kind' k' rule (grid_turned t w h g T).grid)

-- ---- the answer of a job that has ended
abbrev score_says : Option ℕ → Answer
score_says (Some score) = finished score
score_says None = infeasible

record SaysBest (rule : Rule) (w h : ℕ) (g : List ℕ) (says : Answer) : Type 0 where
  score : Option ℕ
  is_best : BestScore rule w h g score
  is_said : says ≡ score_says score

same_said : {rule : Rule} (t : Turn) {w h : ℕ} {g : List ℕ} → Turnable w h g → {a b : Answer} → SaysBest rule w h g a
    → SaysBest rule (turned_width t w h) (turned_height t w h) (turned_bytes t w h g) b → a ≡ b
same_said {rule} t T A B = A.is_said ∙ ap score_says (same_best rule t T A.is_best B.is_best) ∙ sym B.is_said

-- ---- jobs
-- such a job wants the best of all boards, and counts its score
wanted_best : (kind : Kind) → OfAllBoards kind → (rule : Rule) (w h : ℕ) (g b : List ℕ) → OptimalBy kind rule w h g b → BestScore rule w h g (Some (count_by (has_target kind) w h g b))
wanted_best Kind.Ordinary k rule w h g b B = best b B
wanted_best Kind.TwoLayers k rule w h g b B = best b B
wanted_best Kind.Mirror k rule w h g b B = absurd (false≢true (sym k.whole))
wanted_best Kind.Predecessor k rule w h g b B = absurd (false≢true (sym k.givens))

wanted_none : (kind : Kind) → OfAllBoards kind → (rule : Rule) (w h : ℕ) (g : List ℕ) → ((b : List ℕ) → SolutionBy kind rule w h g b → ⊥) → BestScore rule w h g None
wanted_none Kind.Ordinary k rule w h g n = no_board n
wanted_none Kind.TwoLayers k rule w h g n = no_board n
wanted_none Kind.Mirror k rule w h g n = absurd (false≢true (sym k.whole))
wanted_none Kind.Predecessor k rule w h g n = absurd (false≢true (sym k.givens))

module _ {kind : Kind} (k : OfAllBoards kind) {rule : Rule} {w h : ℕ} {g : List ℕ} {calls : List (Call grid)} {s : State} where
  outcome_best : (o : Outcome grid (aim_of (grid_kind kind rule w h g)) calls s) → SaysBest rule w h g (last_answer o)
  outcome_best (solved b final W S) = record { score = _; is_best = wanted_best kind k rule w h g b W.wanted; is_said = W.says }
  outcome_best (unsolvable n S) = record { score = None; is_best = wanted_none kind k rule w h g n; is_said = refl }

pub same_outcome : SameOutcome
same_outcome kind kind' k k' rule t w h g T calls others s s' o o' = same_said t T (outcome_best k o) (outcome_best k' o')

-- a call's answer that isn't "unfinished" is the one that the demand names
last_said : (long : ℕ) (final : Answer) {a : Answer} (calls : List (Call grid)) (s : State) → Each grid (Answers grid long final) calls s
    → (a ≡ unfinished → ⊥) → Said a calls s → a ≡ final
last_said long final [] s A n x = absurd x
last_said long final (work given table board allowance ∷ cs) s A n (inl x) =
    elim (dec_lt (work_of grid s.job given table board allowance).state.job.units long) [
      | yes l ↦ absurd (n (sym x.1 ∙ A.0.below x.0 l))
      | no m ↦ sym x.1 ∙ A.0.from x.0 (omega arith)
    ]
last_said long final (pause ∷ cs) s A n (inl x) = absurd x
last_said long final (resume kind k ∷ cs) s A n (inl x) = absurd x
last_said long final (c ∷ cs) s A n (inr x) = last_said long final cs (after_call grid c s) A.1 n x

-- the demand, of a job opened for a grid and a fair list of calls
module _ {kind : Kind} {rule : Rule} {w h : ℕ} {g : List ℕ} {calls : List (Call grid)} {s : State} (F : FairCalls kind rule w h g calls s) where
  outcome : Outcome grid (aim_of (grid_kind kind rule w h g)) calls s
  unfolding ThirdDemand
  outcome = third_demand kind rule w h g s.table s.board F.result s.job F.opens F.ready calls F.fair

  outcome_said : {a : Answer} → (a ≡ unfinished → ⊥) → Said a calls s → (o : Outcome grid (aim_of (grid_kind kind rule w h g)) calls s) → a ≡ last_answer o
  outcome_said n x (solved b final W S) = last_said _ final calls s S.answers n x
  outcome_said n x (unsolvable e S) = last_said _ infeasible calls s S.answers n x

pub same_answer : SameAnswer
same_answer kind kind' k k' rule t w h g T calls others s s' F F' a b n m x y =
    outcome_said F n x (outcome F)
    ∙ same_outcome kind kind' k k' rule t w h g T calls others s s' (outcome F) (outcome F')
    ∙ sym (outcome_said F' m y (outcome F'))

-- ---- whole jobs in one call
ends_best : {kind : Kind} → OfAllBoards kind → {rule : Rule} {w h : ℕ} {g t β t' β' : List ℕ} {says : Answer} → Ends kind rule w h g t β says t' β' → SaysBest rule w h g says
ends_best {kind} k {rule} {w} {h} {g} (Solving.best B e F) = record { score = _; is_best = wanted_best kind k rule w h g _ B; is_said = e }
ends_best {kind} k {rule} {w} {h} {g} (Solving.none n e same F) = record { score = None; is_best = wanted_none kind k rule w h g n; is_said = e }

-- over memory that there is room in, solving refuses what opening does
at_passed : (a : Answer) (o : Option ℕ) (n : ℕ) → (a then (refuse_at o n then passed) then passed) ≡ (a then refuse_at o n)
at_passed (gives us) None n = refl
at_passed (gives us) (Some p) n = refl
at_passed (refuses m us) o n = refl

solving_check : (kind : Kind) → OfAllBoards kind → (rule : Rule) {w h : ℕ} {g : List ℕ} (t β : List ℕ) → Givens w h g → memory_check kind w h t β ≡ passed
    → solve_check kind rule w h g t β ≡ (rule_check rule then edge_check rule w h g)
unfolding solve_check grid_check read_check edge_check
solving_check kind k rule {w} {h} {g} t β G room = rw (k.whole, k.givens, size_passes G.size, givens_pass G, room) (at_passed (rule_check rule) (edge_found rule w h g) 14)

same : {a b : Answer} → a ≡ b → SameButPlace a b
same e = record { refused = ap refusal_in e; ended = λ n. e }

-- two refusals by one number
both_refuse : {a b : Answer} (n : ℕ) {us vs : List ℕ} → a ≡ refuses n us → b ≡ refuses n vs → SameButPlace a b
both_refuse n p q = record {
  refused = ap refusal_in p ∙ sym (ap refusal_in q);
  ended = λ e. let z : ◌≡◌ {A = Option ℕ} (Some n) None = sym (ap refusal_in p) ∙ e in absurd (some_none z);
}
  where
    some_none : {n : ℕ} → ◌≡◌ {A = Option ℕ} (Some n) None → ⊥
    some_none z = let y : ◌≡◌ {A = ℕ} 0 1 = cc in omega arith

module _ (kind kind' : Kind) (k : OfAllBoards kind) (k' : OfAllBoards kind') (rule : Rule) (t : Turn) {w h : ℕ} {g : List ℕ} (T : Turnable w h g) where
  -- by what the checks come to: the rule is barred, both grids have an edge three, or neither has
  same_by : (fits : Bool) (o o' : Option ℕ) → refuse_at o 14 ≡ passed ↔ refuse_at o' 14 ≡ passed → {τ β τ₁ β₁ τ' β' τ₂ β₂ : List ℕ} {a b : Answer}
      → SolvesTo (refuse_unless fits 13 then refuse_at o 14) kind rule w h g τ β a τ₁ β₁
      → SolvesTo (refuse_unless fits 13 then refuse_at o' 14) kind' rule (turned_width t w h) (turned_height t w h) (turned_bytes t w h g) τ' β' b τ₂ β₂
      → SameButPlace a b
  same_by false o o' f S S' = both_refuse 13 (S.turned 13 [] refl).0 (S'.turned 13 [] refl).0
  same_by true (Some p) (Some q) f S S' = both_refuse 14 (S.turned 14 (p ∷ []) refl).0 (S'.turned 14 (q ∷ []) refl).0
  same_by true None (Some q) f S S' = absurd (refuses_none (f.0 refl))
  same_by true (Some p) None f S S' = absurd (refuses_none (f.1 refl))
  same_by true None None f S S' = same (same_said t T (ends_best k (S.ended refl)) (ends_best k' (S'.ended refl)))

pub same_solved : SameSolved
unfolding rule_check edge_check
same_solved kind kind' k k' rule t w h g T τ β τ₁ β₁ τ' β' τ₂ β₂ r r' room room' S S' =
    same_by kind kind' k k' rule t T (rule_fits rule) (edge_found rule w h g) (edge_found rule (turned_width t w h) (turned_height t w h) (turned_bytes t w h g))
    (edges_turned rule t w h g T.grid.bytes.long)
    (rw (solving_check kind k rule τ β T.grid room) at S.comes) (rw (solving_check kind' k' rule τ' β' (grid_turned t w h g T).grid room') at S'.comes)
