use Rattle.rules.proofs.Settling.{gives_one}
use Rattle.settled.proofs.count.Goals as goal

pub returns : goal.returns
returns c = gives_one _ _ _ c.count.ensures c.count-2.ensures
