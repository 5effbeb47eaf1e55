use mathlib.Core.Path.{◌∙◌}
use Rattle.book.proofs.Loaded.{cap_at_lem}
use Rattle.book.proofs.cap.Goals as goal

pub returns : goal.returns
returns c = c.byte.ensures.0 ∙ cap_at_lem _ _ c.requires.1
