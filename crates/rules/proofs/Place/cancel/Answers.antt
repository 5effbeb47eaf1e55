use Rattle.rules.proofs.Place.cancel.Goals as goal

pub returns : goal.returns
returns c = rw c.cancel-h.ensures
