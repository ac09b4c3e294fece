-- `puzzle::answer` meets its contract, by its test of the sizes.
-- Assumes nothing.
use mathlib.Core.Path.{refl, sym, ◌∙◌}
use mathlib.Core.Bool.{true≢false}
use Rattle.puzzle.proofs.answer.Goals as goal

pub answer_text-requires : goal.answer_text-requires
answer_text-requires c = sym c.has_sizes.ensures ∙ c.if-has_sizes.true

pub returns-then-has_sizes : goal.returns-then-has_sizes
returns-then-has_sizes c =
    let right = sym c.has_sizes.ensures ∙ c.if-has_sizes.true in
    record { answered = λ q. c.answer_text.ensures; otherwise = λ q. absurd (true≢false (sym right ∙ q)) }

pub returns-else-has_sizes : goal.returns-else-has_sizes
returns-else-has_sizes c =
    let wrong = sym c.has_sizes.ensures ∙ c.if-has_sizes.false in
    record { answered = λ q. absurd (true≢false (sym q ∙ wrong)); otherwise = λ q. (refl, refl, refl, refl, refl) }
