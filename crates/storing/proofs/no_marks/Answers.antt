use mathlib.Core.Path.{◌∙◌, ap}
use Rattle.rules.specs.Layout.{stored}
use Rattle.storing.proofs.Sections.{marks_gone}
use Rattle.storing.proofs.no_marks.Goals as goal

pub returns : goal.returns
returns c = λ a e. c.marks.ensures a e ∙ ap stored (marks_gone a)
