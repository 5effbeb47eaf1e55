use Rattle.rules.specs.Calls.{cutback_call}
use Rattle.settled.proofs.Twice.{twice}
use Rattle.settled.proofs.cutback.Goals as goal

pub returns : goal.returns
returns c =
    let first = c in
    let start = first in
    let a = start.args in
    twice (λ s. cutback_call s a.targets a.caps) _ _ _ _ _ _ start.requires first.cutback.ensures c.cutback-2.ensures
