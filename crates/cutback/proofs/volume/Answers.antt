use native.Mathlib.Numerals.{add-one}
use native.Mathlib.Omega.{arith}
use Rattle.cutback.proofs.volume.Goals as goal

pub loop-target-preserved : goal.loop-target-preserved
loop-target-preserved c = rw add-one (omega arith)
