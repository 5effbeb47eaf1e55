use Rattle.rules.proofs.Lots.is_zero.Goals as goal

pub returns : goal.returns
returns c = cc
