-- The line that `Line::at` makes starts at the place.
-- Assumes nothing.
use mathlib.Core.Path.{refl}
use borrow.Author.Rules.{rules}
use Rattle.plaintext.proofs.Lines.{line_starts}
use Rattle.plaintext.proofs.line.Line.at.Goals as goal

pub returns : goal.returns
returns c = line_starts _ _ c.requires c.first_lf.ensures c.unwrap_or-length.ensures _ refl (search rules) refl
