use Rattle.rules.proofs.Settling.{gives_one}
use Rattle.settled.proofs.read.Goals as goal

pub returns : goal.returns
returns c = gives_one _ _ _ c.read.ensures c.read-2.ensures
