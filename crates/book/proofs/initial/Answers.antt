use mathlib.Core.Path.{◌∙◌}
use Rattle.book.proofs.Loaded.{initial_at}
use Rattle.book.proofs.initial.Goals as goal

pub returns : goal.returns
returns c = c.two.ensures ∙ initial_at _ _ c.requires.1
