use mathlib.Core.Path.{◌∙◌}
use Rattle.book.proofs.Loaded.{round_at}
use Rattle.book.proofs.round.Goals as goal

pub returns : goal.returns
returns c = c.two.ensures ∙ round_at _
