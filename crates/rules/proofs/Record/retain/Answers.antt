use Rattle.rules.proofs.Record.retain.Goals as goal

pub returns : goal.returns
returns c = cc
