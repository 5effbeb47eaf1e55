use mathlib.Core.Path.{ap}
use native.Mathlib.Nat.{le_antisymm}
use native.Mathlib.Numerals.{add-one}
use native.Mathlib.Omega.{arith}
use Rattle.rules.specs.Held.{held_in}
use Rattle.held.proofs.held.Goals as goal

pub loop-b-preserved : goal.loop-b-preserved
loop-b-preserved c = let e = ap held_in c.record-r.ensures in rw add-one (omega arith)

pub returns : goal.returns
returns c = (cc (le_antisymm c.loop-b.invariant.0 c.loop-b-test.false), omega arith)
