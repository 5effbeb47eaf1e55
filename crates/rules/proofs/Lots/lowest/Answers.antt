use Rattle.rules.proofs.Lots.lowest.Goals as goal

pub returns : goal.returns
returns c = cc
