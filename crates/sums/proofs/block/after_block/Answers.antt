-- `after_block` meets its contract. Assumes nothing.
use Rattle.sums.specs.Block.{after_block}
use Rattle.sums.proofs.block.after_block.Goals as goal

pub returns : goal.returns
unfolding after_block
returns c = rw (c.added.ensures, c.rounds.ensures, c.work_of.ensures, c.schedule-w.ensures)
