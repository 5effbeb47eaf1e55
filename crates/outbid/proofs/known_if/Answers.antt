use Rattle.outbid.proofs.known_if.Goals as goal

pub returns : goal.returns
returns c = rw c.if-sure.false
