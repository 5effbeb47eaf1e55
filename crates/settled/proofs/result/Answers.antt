use Rattle.rules.proofs.Settling.{gives_one}
use Rattle.settled.proofs.result.Goals as goal

pub returns : goal.returns
returns c = gives_one _ _ _ c.result.ensures c.result-2.ensures
