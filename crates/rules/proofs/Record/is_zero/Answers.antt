use Rattle.rules.proofs.Record.is_zero.Goals as goal

pub returns : goal.returns
returns c = cc
