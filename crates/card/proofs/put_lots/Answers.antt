-- `put_lots` meets its contract, by those of its four calls. Assumes nothing.
use Rattle.rules.specs.Card.{put_lots}
use Rattle.card.proofs.put_lots.Goals as goal

pub returns : goal.returns
unfolding put_lots
returns c =
    rw (c.put_lot-4.ensures, c.put_lot-3.ensures, c.put_lot-2.ensures, c.put_lot.ensures)
