use Rattle.rules.proofs.Place.outbid_switch.Goals as goal

pub returns : goal.returns
returns c = rw c.outbid_switch-h.ensures
