-- `put_lot` meets its contract, by those of its two calls. Assumes nothing.
use Rattle.rules.specs.Card.{put_lot}
use Rattle.card.proofs.put_lot.Goals as goal

pub returns : goal.returns
unfolding put_lot
returns c = cc
