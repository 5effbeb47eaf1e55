use Rattle.round.proofs.bid_of.Goals as goal

pub returns : goal.returns
returns c = rw c.if-filed.false c.default_line.ensures
