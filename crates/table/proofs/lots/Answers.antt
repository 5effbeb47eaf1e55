use Rattle.table.proofs.lots.Goals as goal

pub returns : goal.returns
returns c = cc
