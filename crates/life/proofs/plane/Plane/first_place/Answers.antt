-- `life::plane::Plane::first_place` meets its contract: the search passes the places that keep their state.
-- Assumes nothing.
use mathlib.Core.Path.{◌≡◌}
use mathlib.Core.Bool.{true, false}
use borrow.Author.Rules.{rules}
use Rattle.std.proofs.Common.{tests}
use Rattle.std.proofs.lemmas.Iterator.{first_from_Range}
use Rattle.rule.specs.Rule.{entry_of}
use Rattle.life.specs.Calls.{ring_size, keeps_at}
use Rattle.life.proofs.Ring.{first_in}
use Rattle.life.proofs.plane.Plane.first_place.Goals as goal

pub returns : goal.returns
returns c =
    let p = c.args.self.now in
    let test = keeps_at (entry_of c.args.next.now) p.width p.height p.cells.now in
    first_in test (ring_size p.width p.height) c.find.result
    (first_from_Range _ _ _ _ (λ x. test x ≡ false) (λ x. test x ≡ true) c.find.ensures.ran (λ x q k. search (rules, tests))
    (λ x q k. search (rules, tests)))
