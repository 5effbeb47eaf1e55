use Rattle.outbid.proofs.known_again.Goals as goal

pub returns : goal.returns
returns c = let t = c.turn_of.ensures in record { is = cc t.turn; exit = t.exit }
