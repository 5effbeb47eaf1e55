use Rattle.asked.proofs.LotText.{no_number, a_number, too_large, not_a_number}
use Rattle.asked.proofs.lots.number_in.Goals as goal

pub returns-then-a-e : goal.returns-then-a-e
returns-then-a-e c = search no_number

pub returns-in-Value : goal.returns-in-Value
returns-in-Value c = search a_number

pub returns-in-Large : goal.returns-in-Large
returns-in-Large c = search too_large

pub returns-in-Other : goal.returns-in-Other
returns-in-Other c = search not_a_number
