use Rattle.std.proofs.Common.{le_antisymm, add-one, rules}
use Rattle.sums.specs.Block.{rounds_up_to}
use Rattle.sums.proofs.block.rounds.Goals as goal

pub loop-t-init : goal.loop-t-init
unfolding rounds_up_to
loop-t-init c = search rules

pub loop-t-preserved : goal.loop-t-preserved
unfolding rounds_up_to
loop-t-preserved c = rw add-one (cc)

pub returns : goal.returns
returns c = cc (le_antisymm c.loop-t.auto.t-end c.loop-t-test.false)
