use Rattle.rules.proofs.Line.is_zero.Goals as goal

pub returns : goal.returns
returns c = cc
