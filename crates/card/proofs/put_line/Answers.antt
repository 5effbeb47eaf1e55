-- `put_line` meets its contract, by those of its three calls. Assumes nothing.
use Rattle.rules.specs.Card.{put_line}
use Rattle.card.proofs.put_line.Goals as goal

pub returns : goal.returns
unfolding put_line
returns c = cc
