use Rattle.std.proofs.Common.{le_antisymm, add-one, rules}
use Rattle.sums.specs.Sum.{digits_up_to}
use Rattle.sums.proofs.digits_of.Goals as goal

pub loop-i-init : goal.loop-i-init
unfolding digits_up_to
loop-i-init c = search rules

pub loop-i-preserved : goal.loop-i-preserved
unfolding digits_up_to
loop-i-preserved c = (search rules, rw add-one (cc))

pub returns : goal.returns
returns c = cc (le_antisymm c.loop-i.auto.i-end c.loop-i-test.false)
