use Rattle.rules.specs.Calls.{open_call}
use Rattle.settled.proofs.Twice.{twice}
use Rattle.settled.proofs.open.Goals as goal

pub returns : goal.returns
returns c =
    let first = c in
    let start = first in
    let a = start.args in
    twice (λ s. open_call s a.given) _ _ _ _ _ _ start.requires first.open.ensures c.open-2.ensures
