use Rattle.rules.proofs.Settling.{gives_one}
use Rattle.settled.proofs.suggested_volume.Goals as goal

pub returns : goal.returns
returns c = gives_one _ _ _ c.suggested_volume.ensures c.suggested_volume-2.ensures
