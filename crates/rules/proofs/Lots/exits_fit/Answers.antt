use Rattle.rules.specs.Lots.{in_order, exits_fit}
use Rattle.rules.proofs.Lots.exits_fit.Goals as goal

pub returns : goal.returns
unfolding in_order exits_fit
returns c = cc
