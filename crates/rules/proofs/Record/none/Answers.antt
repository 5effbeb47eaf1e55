use Rattle.rules.proofs.Record.none.Goals as goal

pub returns : goal.returns
returns c = cc
