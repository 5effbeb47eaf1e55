-- `scheduled` meets its contract: of the block, or of the words before. Assumes nothing.
use Rattle.std.proofs.Common.{le-ltb, lt-ltb}
use Rattle.sums.specs.Block.{scheduled}
use Rattle.sums.proofs.block.scheduled.Goals as goal

pub returns-then-t-lt16 : goal.returns-then-t-lt16
unfolding scheduled
returns-then-t-lt16 c = rw (lt-ltb _ _ c.if-t-lt16.true) c.word_of.ensures

pub returns : goal.returns
unfolding scheduled
returns c = rw (
  c.plus-3.ensures,
  c.plus-2.ensures,
  c.small_sigma0.ensures,
  c.plus.ensures,
  c.small_sigma1.ensures,
  le-ltb _ _ c.if-t-lt16.false,
)
