use mathlib.Core.Path.{◌∙◌}
use Rattle.book.proofs.Loaded.{statewide_at}
use Rattle.book.proofs.statewide.Goals as goal

pub returns : goal.returns
returns c = c.two.ensures ∙ statewide_at _
