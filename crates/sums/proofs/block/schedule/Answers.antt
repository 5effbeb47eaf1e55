use Rattle.std.proofs.Common.{le_antisymm, add-one, rules}
use Rattle.sums.specs.Block.{schedule_up_to}
use Rattle.sums.proofs.block.schedule.Goals as goal

pub loop-t-init : goal.loop-t-init
unfolding schedule_up_to
loop-t-init c = search rules

pub loop-t-preserved : goal.loop-t-preserved
unfolding schedule_up_to
loop-t-preserved c = (search rules, rw add-one (cc))

pub returns : goal.returns
returns c = cc (le_antisymm c.loop-t.auto.t-end c.loop-t-test.false)
