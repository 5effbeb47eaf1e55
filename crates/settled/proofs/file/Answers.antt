use Rattle.rules.specs.Calls.{file_call}
use Rattle.settled.proofs.Twice.{twice}
use Rattle.settled.proofs.file.Goals as goal

pub returns : goal.returns
returns c =
    let first = c in
    let start = first in
    let a = start.args in
    twice (λ s. file_call s a.card.now) _ _ _ _ _ _ start.requires first.file.ensures c.file-2.ensures
