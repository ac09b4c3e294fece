-- The theorems of `specs/Theorems`, proved: for every next-state table whose pattern 0 stays dead, and under every allowed rule by the neighbour count.
-- Assumes nothing.
use mathlib.Core.Path.{◌≡◌, refl, ◌∙◌, sym, ap, ap₂}
use mathlib.Core.List.{List}
use Prim.Native.Nat.{ℕ}
use lib.Dec.{eqb}
use lib.IntN.{ℤ}
use lib.ListN.{length}
use Rattle.std.specs.Prelude.{Option, None, Some, Result, Ok, Err}
use Rattle.board.specs.Answers.{gives, refuse_unless}
use Rattle.board.specs.Boards.{Bytes, Board}
use Rattle.board.proofs.Answers.{refuses_none, then_gives}
use Rattle.rule.specs.Rule.{Allowed, next_under}
use Rattle.rule.specs.declared.Rule.{Rule}
use Rattle.rule.proofs.Rules.{dead_stays, conway_state}
use Rattle.life.specs.Plane.{Plane, on_plane, neighbours, step_under, table_step, Still, LeadsTo, StillBy, LeadsToBy}
use Rattle.life.specs.Calls.{life_check, ring_size, step_rule, step_writes, judged, judge_rule, verdict_says, still, changes}
use Rattle.board.specs.declared.Refusal.{Refusal}
use Rattle.life.specs.declared.Change.{Change}
use Rattle.life.specs.Theorems.{FirstChange, JudgeRightBy, LifeCheckRight, JudgeRight, StepRight, StillByRows, StepsByRows, ConwaySteps, ForEveryTable}
use Rattle.life.proofs.OnPlane.{plane_small}
use Rattle.life.proofs.Checking.{taken, taken_passes}
use Rattle.life.proofs.Counting.{by_count}
use Rattle.life.proofs.Judging.{no_change, judge_right}
use Rattle.life.proofs.Stepping.{step_right}
use Rattle.life.proofs.Rows.{steps_by_rows, agree_steps, steps_agree, still_by_rows}

pub for_every_table : ForEveryTable
for_every_table next quiet = (judge_right next quiet, step_right next quiet, still_by_rows next quiet, steps_by_rows next quiet)

pub life_check_right : LifeCheckRight
life_check_right rule w h cells = (taken rule w h cells, λ p. taken_passes rule p.0 p.1)

-- ---- by the neighbour count
module _ (rule : Rule) {w h : ℕ} {cells : List ℕ} (b : Bytes 1 w h cells) where
  counted : (r c : ℤ) → table_step (next_under rule) (on_plane w h cells) r c ≡ step_under rule (on_plane w h cells) r c
  counted r c = by_count (on_plane w h cells) (plane_small b) r c rule

  leads_of : (Q : Plane) → LeadsToBy (next_under rule) (on_plane w h cells) Q → LeadsTo rule (on_plane w h cells) Q
  unfolding LeadsTo LeadsToBy
  leads_of Q s r c = sym (counted r c) ∙ s r c

  of_leads : (Q : Plane) → LeadsTo rule (on_plane w h cells) Q → LeadsToBy (next_under rule) (on_plane w h cells) Q
  unfolding LeadsTo LeadsToBy
  of_leads Q s r c = counted r c ∙ s r c

  still_of : StillBy (next_under rule) (on_plane w h cells) → Still rule (on_plane w h cells)
  unfolding Still LeadsTo StillBy LeadsToBy
  still_of = leads_of (on_plane w h cells)

  of_still : Still rule (on_plane w h cells) → StillBy (next_under rule) (on_plane w h cells)
  unfolding Still LeadsTo StillBy LeadsToBy
  of_still = of_leads (on_plane w h cells)

  change_of : (r c : ℕ) → FirstChange (table_step (next_under rule)) w h (on_plane w h cells) r c → FirstChange (step_under rule) w h (on_plane w h cells) r c
  change_of r c f =
      record {
        row = f.row;
        column = f.column;
        changed = λ e. f.changed (counted _ _ ∙ e);
        kept = λ s d q m. sym (counted _ _) ∙ f.kept s d q m;
      }

  of_change : (r c : ℕ) → FirstChange (step_under rule) w h (on_plane w h cells) r c → FirstChange (table_step (next_under rule)) w h (on_plane w h cells) r c
  of_change r c f =
      record {
        row = f.row;
        column = f.column;
        changed = λ e. f.changed (sym (counted _ _) ∙ e);
        kept = λ s d q m. counted _ _ ∙ f.kept s d q m;
      }

-- a verdict is told by what it says
says_still : (v : Result (Option Change) Refusal) → verdict_says v ≡ still → v ≡ Ok None
says_still (Ok None) e = refl
says_still (Ok (Some cell)) e = absurd (no_change (sym e))
says_still (Err x) e = absurd (refuses_none e)

says_changes : (v : Result (Option Change) Refusal) (r c : ℕ) → verdict_says v ≡ changes r c → v ≡ Ok (Some (record { row = r; column = c }))
says_changes (Ok None) r c e = absurd (no_change e)
says_changes (Ok (Some cell)) r c e =
    let er : cell.row ≡ r = cc in
    let ec : cell.column ≡ c = cc in
    ap₂ (λ (s d : ℕ). Ok (Some (record { row = s; column = d }))) er ec
says_changes (Err x) r c e = absurd (refuses_none e)

-- a verdict is of an allowed rule and a board, and is what judging finds of them
module _ (rule : Rule) (w h : ℕ) (cells : List ℕ) where
  verdict_of : {vs : List ℕ} → judge_rule rule w h cells ≡ gives vs → (Allowed rule × Board w h cells) × (judged (next_under rule) w h cells ≡ gives vs)
  unfolding judge_rule
  verdict_of e =
      let p = then_gives (life_check rule w h cells) (judged (next_under rule) w h cells) e in
      (taken rule w h cells p.0.1, p.1)

  of_verdict : Allowed rule → Board w h cells → judge_rule rule w h cells ≡ judged (next_under rule) w h cells
  unfolding judge_rule
  of_verdict a b = rw (taken_passes rule a b)

pub judge_life : JudgeRight
judge_life rule w h cells v says = (
  (
    λ e.
        let d = verdict_of rule w h cells (sym says ∙ ap verdict_says e) in
        (d.0.0, d.0.1, still_of rule d.0.1.bytes ((found d.0.0 w h cells).0.0 d.1)),
    λ s. says_still v (says ∙ of_verdict rule w h cells s.0 s.1 ∙ (found s.0 w h cells).0.1 (of_still rule s.1.bytes s.2)),
  ),
  λ r c. (
    λ e.
        let d = verdict_of rule w h cells (sym says ∙ ap verdict_says e) in
        (d.0.0, d.0.1, change_of rule d.0.1.bytes r c (((found d.0.0 w h cells).1 r c).0 d.1)),
    λ f. says_changes v r c (says ∙ of_verdict rule w h cells f.0 f.1 ∙ ((found f.0 w h cells).1 r c).1 (of_change rule f.1.bytes r c f.2)),
  ),
)
  where
    found : Allowed rule → JudgeRightBy (next_under rule)
    found a = judge_right (next_under rule) (dead_stays rule a)

pub step_life : StepRight
unfolding step_rule step_writes
step_life rule w h cells ring e r c =
    let p = then_gives (life_check rule w h cells) (refuse_unless (eqb (length ring) (ring_size w h)) 10) e in
    let k = taken rule w h cells p.0.1 in
    rw e (step_right (next_under rule) (dead_stays rule k.0) w h cells r c ∙ counted rule k.1.bytes r c)

pub steps_life : StepsByRows
steps_life rule a w h cells target b t =
    let j = steps_by_rows (next_under rule) (dead_stays rule a) w h cells target b t in
    (λ s. j.0 (of_leads rule b (on_plane w h target) s), λ m. leads_of rule b (on_plane w h target) (j.1 m))

pub rows_life : StillByRows
unfolding Still LeadsTo
rows_life rule a w h cells b =
    let j = steps_life rule a w h cells cells b b in
    (λ s. steps_agree (j.0 s), λ m. j.1 (agree_steps m))

pub conway_steps : ConwaySteps
conway_steps w h cells b r c = conway_state (on_plane w h cells r c) (neighbours (on_plane w h cells) r c) (plane_small b.bytes r c)
