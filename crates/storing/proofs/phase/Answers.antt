-- `storing::phase` meets its contract: the head is written out. Assumes nothing.
use mathlib.Core.Path.{◌∙◌}
use Rattle.storing.proofs.Sections.{phase_written}
use Rattle.storing.proofs.phase.Goals as goal

pub returns : goal.returns
returns c = λ a e. rw e at c.byte.ensures ∙ phase_written a _
