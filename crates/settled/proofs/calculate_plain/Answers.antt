use Rattle.rules.specs.Calls.{plain_call}
use Rattle.settled.proofs.Twice.{twice}
use Rattle.settled.proofs.calculate_plain.Goals as goal

pub returns : goal.returns
returns c =
    let first = c in
    let start = first in
    let a = start.args in
    twice (λ s. plain_call s a.draw.now a.overrides a.order.now) _ _ _ _ _ _ start.requires first.calculate_plain.ensures c.calculate_plain-2.ensures
