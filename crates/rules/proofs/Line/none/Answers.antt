use Rattle.rules.proofs.Line.none.Goals as goal

pub returns : goal.returns
returns c = cc
