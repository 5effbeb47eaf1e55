-- `value_of` meets its contract, in each of the answer's cases. Assumes nothing.
use Rattle.card.specs.Parts.{value_of}
use Rattle.card.proofs.value_of.Goals as goal

pub returns-in_default : goal.returns-in_default
unfolding value_of
returns-in_default c = rw c.in_default.is

pub returns : goal.returns
unfolding value_of
returns c = rw c.in-Some.is
