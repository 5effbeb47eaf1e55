-- `round` meets its contract. Assumes nothing.
use Rattle.sums.specs.Block.{round_of}
use Rattle.sums.proofs.block.round.Goals as goal

pub returns : goal.returns
unfolding round_of
returns c = rw (
  c.plus-5.ensures,
  c.plus-4.ensures,
  c.plus-t2.ensures,
  c.maj.ensures,
  c.big_sigma0.ensures,
  c.plus-t1.ensures,
  c.plus-3.ensures,
  c.plus-2.ensures,
  c.ch.ensures,
  c.plus.ensures,
  c.big_sigma1.ensures,
)
