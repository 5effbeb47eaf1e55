use mathlib.Core.Path.{◌∙◌}
use Rattle.book.proofs.Loaded.{target_at_lem}
use Rattle.book.proofs.target.Goals as goal

pub returns : goal.returns
returns c = c.byte.ensures.0 ∙ target_at_lem _ _ c.requires.1
