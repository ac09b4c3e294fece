-- `score_table::filling::entry_at` meets its contract: the last layer by what the last rows step to, a layer above by its best row.
-- Assumes nothing.
use mathlib.Core.Path.{◌≡◌, sym, ◌∙◌, ap}
use mathlib.Core.Bool.{true≢false}
use Rattle.std.specs.Prelude.{Option}
use Prim.Native.Nat.{◌-◌, ◌%◌, ◌^◌, ◌<◌}
use native.Mathlib.Omega.{arith}
use Rattle.elimination.specs.Kind.{worth_of}
use Rattle.rule.specs.Rule.{entry_of}
use Rattle.score_table.specs.Rows.{digits_of}
use Rattle.score_table.specs.ScoreTable.{absent}
use Rattle.score_table.specs.Inner.{choice_of}
use Rattle.score_table.specs.declared.best.Best.{Best}
use Rattle.score_table.proofs.EntryLaws.{row_room, layer_room, row_a_lt, row_b_lt, entry_apart, entry_open, entry_ends, entry_best}
use Rattle.score_table.proofs.filling.entry_at.Goals as goal
use Rattle.score_table.proofs.filling.entry_at.Goals.{then-steps_to, else-steps_to}

pub row_for-requires : goal.row_for-requires
row_for-requires c =
    let R = c.requires.0 in
    let codes : c.row_codes-n.result ≡ 2 ^ digits_of c.args.grid.want c.args.grid.width = rw c.row_digits.ensures at c.row_codes-n.ensures.0 in
    (R.memory.width, row_a_lt _ _ _ codes (omega (arith, R.inside)))

pub returns-then-ends : goal.returns-then-ends
returns-then-ends c =
    let codes : c.row_codes-n.result ≡ 2 ^ digits_of c.args.grid.want c.args.grid.width = rw c.row_digits.ensures at c.row_codes-n.ensures.0 in
    elim c.if-steps_to.branch [
      | then-steps_to w ↦
          entry_ends c.args.grid.want _ _ _ codes (entry_of c.args.grid.next.now) _ _ _ _ _ _ _ c.row_for-row.ensures.0 c.target_row-t.ensures.0 c.if-k-eq0.true _ c.row_for.ensures.0
          (sym c.steps_to.ensures ∙ w.if-steps_to.true) (sym w.steps_to-ends.ensures ∙ sym w.ends-is ∙ c.if-ends.true)
      | else-steps_to w ↦ absurd (true≢false (sym c.if-ends.true ∙ w.ends-is ∙ w.if-steps_to.false))
    ]

pub returns-else-ends : goal.returns-else-ends
returns-else-ends c =
    let codes : c.row_codes-n.result ≡ 2 ^ digits_of c.args.grid.want c.args.grid.width = rw c.row_digits.ensures at c.row_codes-n.ensures.0 in
    elim c.if-steps_to.branch [
      | then-steps_to w ↦
          entry_open c.args.grid.want _ _ _ codes (entry_of c.args.grid.next.now) _ _ _ _ _ _ _ c.row_for-row.ensures.0 c.target_row-t.ensures.0 c.if-k-eq0.true _ c.row_for.ensures.0
          (sym c.steps_to.ensures ∙ w.if-steps_to.true) (sym w.steps_to-ends.ensures ∙ sym w.ends-is ∙ c.if-ends.false)
      | else-steps_to w ↦
          entry_apart c.args.grid.want _ _ _ codes (entry_of c.args.grid.next.now) _ _ _ _ _ _ _ c.row_for-row.ensures.0 c.target_row-t.ensures.0 c.if-k-eq0.true _ c.row_for.ensures.0
          (sym c.steps_to.ensures ∙ w.if-steps_to.false)
    ]

pub best_row-requires : goal.best_row-requires
best_row-requires c =
    let R = c.requires.0 in
    let g = c.args.grid in
    let codes : c.row_codes-n.result ≡ 2 ^ digits_of g.want g.width = rw c.row_digits.ensures at c.row_codes-n.ensures.0 in
    let b : c.args.j % c.row_codes-n.result < 2 ^ digits_of g.want g.width = row_b_lt _ _ _ codes in
    let l : g.height - c.args.k < g.height = omega (arith, R.after, c.if-k-eq0.false) in (
      R.memory.width,
      row_a_lt _ _ _ codes (omega (arith, R.inside)),
      b,
      c.target_row-t.ensures.1,
      omega (arith, row_room g.width _ _ l, R.memory.marks),
      omega (arith, layer_room _ _ _ _ _ codes b (R.layer c.if-k-eq0.false)),
    )

pub returns-in-None : goal.returns-in-None
returns-in-None c =
    let codes : c.row_codes-n.result ≡ 2 ^ digits_of c.args.grid.want c.args.grid.width = rw c.row_digits.ensures at c.row_codes-n.ensures.0 in
    ap (λ (o : Option Best). worth_of absent (choice_of o)) (sym c.in-None.is)
    ∙ entry_best c.args.grid.want _ _ _ codes (entry_of c.args.grid.next.now) _ _ _ _ _ _ _ c.row_for-row.ensures.0 c.target_row-t.ensures.0 c.if-k-eq0.false _ c.best_row.ensures

pub returns-in-Some : goal.returns-in-Some
returns-in-Some c =
    let codes : c.row_codes-n.result ≡ 2 ^ digits_of c.args.grid.want c.args.grid.width = rw c.row_digits.ensures at c.row_codes-n.ensures.0 in
    ap (λ (o : Option Best). worth_of absent (choice_of o)) (sym c.in-Some.is)
    ∙ entry_best c.args.grid.want _ _ _ codes (entry_of c.args.grid.next.now) _ _ _ _ _ _ _ c.row_for-row.ensures.0 c.target_row-t.ensures.0 c.if-k-eq0.false _ c.best_row.ensures
