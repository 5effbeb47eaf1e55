use native.Mathlib.Numerals.{add-one}
use native.Mathlib.Omega.{arith}
use native.Mathlib.Nat.{le_antisymm}
use Rattle.settings.proofs.statewide_limits.Goals as goal

pub loop-p-preserved : goal.loop-p-preserved
loop-p-preserved c = rw add-one (omega arith)

pub returns : goal.returns
returns c = cc (le_antisymm c.loop-p.invariant.0 c.loop-p-test.false)
