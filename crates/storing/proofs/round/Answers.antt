-- `storing::round` meets its contract: the head is written out. Assumes nothing.
use mathlib.Core.Path.{◌∙◌}
use Rattle.storing.proofs.Sections.{round_written}
use Rattle.storing.proofs.round.Goals as goal

pub returns : goal.returns
returns c = λ a e. rw e at c.two.ensures ∙ round_written a _
