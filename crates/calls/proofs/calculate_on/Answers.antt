use Rattle.calls.proofs.Steps.{calculated, calculated_plain_lem}
use Rattle.calls.proofs.calculate_on.Goals as goal

pub returns-then-order-eq0 : goal.returns-then-order-eq0
returns-then-order-eq0 c = search calculated

pub returns : goal.returns
returns c = search calculated_plain_lem
