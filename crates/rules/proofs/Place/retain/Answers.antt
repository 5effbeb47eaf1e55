use Rattle.rules.proofs.Place.retain.Goals as goal

pub returns : goal.returns
returns c = cc
