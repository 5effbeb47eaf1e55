use Rattle.rules.proofs.Place.deem.Goals as goal

pub returns : goal.returns
returns c = rw c.deem-h.ensures
