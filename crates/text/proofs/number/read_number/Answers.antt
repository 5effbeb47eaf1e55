use Rattle.std.proofs.Common.{le_antisymm, add-one, rules}
use Rattle.text.specs.Number.{read_up_to}
use Rattle.text.proofs.number.read_number.Goals as goal

pub loop-b-init : goal.loop-b-init
unfolding read_up_to
loop-b-init c = search rules

pub loop-b-preserved : goal.loop-b-preserved
unfolding read_up_to
loop-b-preserved c = rw (add-one, ← c.loop-b.invariant) c.digit_after-n.ensures

pub returns : goal.returns
returns c = cc (le_antisymm c.loop-b.auto.b-index-end c.loop-b-test.false)
