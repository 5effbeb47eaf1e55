use Rattle.rules.specs.Calls.{write_call}
use Rattle.settled.proofs.Twice.{twice}
use Rattle.settled.proofs.write.Goals as goal

pub returns : goal.returns
returns c =
    let first = c in
    let start = first in
    let a = start.args in
    twice (λ s. write_call s a.products a.bidder a.round a.lines) _ _ _ _ _ _ start.requires first.write.ensures c.write-2.ensures
