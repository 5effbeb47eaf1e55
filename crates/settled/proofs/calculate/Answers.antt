use Rattle.rules.specs.Calls.{calculate_call}
use Rattle.settled.proofs.Twice.{twice}
use Rattle.settled.proofs.calculate.Goals as goal

pub returns : goal.returns
returns c =
    let first = c in
    let start = first in
    let a = start.args in
    twice (λ s. calculate_call s a.draw.now a.overrides) _ _ _ _ _ _ start.requires first.calculate.ensures c.calculate-2.ensures
