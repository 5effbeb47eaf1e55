use Rattle.rules.proofs.Lots.outbid_last.Goals as goal

pub returns : goal.returns
returns c = cc
