-- `life::plane::Plane::keeps` meets its contract: a cell keeps its state where the entry of its pattern is that state.
-- Assumes nothing.
use mathlib.Core.Path.{sym}
use Rattle.rule.specs.Rule.{entry_of}
use Rattle.life.proofs.Ring.{keeps_is}
use Rattle.life.proofs.plane.Plane.keeps.Goals as goal

pub returns : goal.returns
returns c =
    let p = c.args.self.now in
    sym (keeps_is (entry_of c.args.next.now) p.width p.height p.cells.now c.args.place c.pattern.ensures.0 c.cell.ensures.0)
