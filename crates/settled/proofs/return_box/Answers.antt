use Rattle.rules.specs.Calls.{return_call}
use Rattle.settled.proofs.Twice.{twice}
use Rattle.settled.proofs.return_box.Goals as goal

pub returns : goal.returns
returns c =
    let first = c in
    let start = first in
    twice return_call _ _ _ _ _ _ start.requires first.return_box.ensures c.return_box-2.ensures
