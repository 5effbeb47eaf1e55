use Rattle.rules.proofs.Lots.none.Goals as goal

pub returns : goal.returns
returns c = cc
