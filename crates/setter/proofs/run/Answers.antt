-- `setter::run` meets its contract: memory of the program's sizes has the bytes that were read answered, inside the output.
-- Assumes nothing.
use mathlib.Core.Path.{sym, ◌∙◌}
use native.Mathlib.Omega.{arith}
use lib.Seq.{length-take-le}
use Rattle.setter.proofs.run.Goals as goal

pub slice_bounds-text-end : goal.slice_bounds-text-end
slice_bounds-text-end c =
    let i = (c.answer-printed.ensures.answered c.requires.1).inside in
    let k = c.answer-printed.auto.output in
    omega arith

pub slice_bounds-text-end-2 : goal.slice_bounds-text-end-2
slice_bounds-text-end-2 c =
    let i = (c.answer-printed.ensures.answered c.requires.1).inside in
    let k = c.answer-printed.auto.output in
    sym (length-take-le _ _ (omega arith))

pub returns : goal.returns
returns c =
    let r = c.read_full-n in
    let l = r.auto.buf ∙ c.requires.0 in
    record {
      room = l;
      read = r.result;
      printed = c.answer-printed.result;
      inside = omega arith;
      answered = c.answer-printed.ensures.answered c.requires.1;
    }
