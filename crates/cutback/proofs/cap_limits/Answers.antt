use Rattle.cutback.proofs.cap_limits.Goals as goal

pub returns : goal.returns
returns c = cc
