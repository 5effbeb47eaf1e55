-- settings have arrays of their lengths
use Rattle.std.proofs.Common.{rules}
use Rattle.calls.proofs.Steps.{opened}
use Rattle.calls.proofs.open_on.Goals as goal

pub returns : goal.returns
returns c = opened _ _ _ (search rules) (search rules) c.«open».ensures.1
