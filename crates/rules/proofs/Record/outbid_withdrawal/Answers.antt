use Rattle.rules.proofs.Record.outbid_withdrawal.Goals as goal

pub returns : goal.returns
returns c = cc
