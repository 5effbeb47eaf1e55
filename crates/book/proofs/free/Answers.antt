use mathlib.Core.Path.{◌∙◌}
use Rattle.book.proofs.Loaded.{free_at_lem}
use Rattle.book.proofs.free.Goals as goal

pub returns : goal.returns
returns c = c.two.ensures ∙ free_at_lem _ _ c.requires.1
