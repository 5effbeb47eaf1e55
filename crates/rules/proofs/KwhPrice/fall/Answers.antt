use Rattle.rules.proofs.KwhPrice.fall.Goals as goal

pub returns : goal.returns
returns c = rw c.after_cut.ensures.0
