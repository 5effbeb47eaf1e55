use Rattle.rules.specs.Settings.{setup_of}
use Rattle.settings.proofs.opening.setup_of.Goals as goal

pub returns : goal.returns
unfolding setup_of
returns c = rw (c.number.ensures.0, c.items_of-item.ensures)
