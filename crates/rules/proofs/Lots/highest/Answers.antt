use Rattle.rules.proofs.Lots.highest.Goals as goal

pub returns : goal.returns
returns c = cc
