use mathlib.Core.Path.{sym, ◌∙◌}
use Rattle.asked.specs.Overrides.{points_at}
use Rattle.asked.proofs.overriding.take_points.Goals as goal

pub returns-in-Number : goal.returns-in-Number
unfolding points_at
returns-in-Number c = rw (sym c.take_number.ensures ∙ c.in-Number.is, c.two_bytes.ensures)

pub returns-in-TooLarge : goal.returns-in-TooLarge
unfolding points_at
returns-in-TooLarge c = rw (sym c.take_number.ensures ∙ c.in-TooLarge.is, c.word-w.ensures.0)

pub returns-in-NotANumber : goal.returns-in-NotANumber
unfolding points_at
returns-in-NotANumber c = rw (sym c.take_number.ensures ∙ c.in-NotANumber.is)

pub returns-in-End : goal.returns-in-End
unfolding points_at
returns-in-End c = rw (sym c.take_number.ensures ∙ c.in-End.is)
