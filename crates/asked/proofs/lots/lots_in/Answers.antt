use Rattle.asked.proofs.LotText.{none, some}
use Rattle.asked.proofs.lots.lots_in.Goals as goal

pub returns-then-is_dash : goal.returns-then-is_dash
returns-then-is_dash c = search none

pub returns : goal.returns
returns c = search some
