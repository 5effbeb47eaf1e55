use Rattle.std.proofs.Common.{le_antisymm, arith, rules}
use Rattle.text.proofs.Laws.{hex_more}
use Rattle.text.specs.Hex.{hex_up_to}
use Rattle.text.proofs.hex.put_bytes.Goals as goal

pub loop-i-init : goal.loop-i-init
unfolding hex_up_to
loop-i-init c = search rules

pub loop-i-preserved : goal.loop-i-preserved
loop-i-preserved c =
    let a = c.args in
    rw (c.nibble-low.ensures.0, c.nibble-high.ensures.0, c.loop-i.invariant) (hex_more a.w.now a.out.now c.loop-i.i (omega arith))

pub returns : goal.returns
returns c = cc (le_antisymm c.loop-i.auto.i-end c.loop-i-test.false)
