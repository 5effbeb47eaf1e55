use Rattle.rules.proofs.Place.outbid_withdrawal.Goals as goal

pub returns : goal.returns
returns c = cc
