use Rattle.rules.proofs.Place.keep.Goals as goal

pub returns : goal.returns
returns c = rw c.keep-h.ensures
