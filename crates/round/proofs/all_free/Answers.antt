use native.Mathlib.Numerals.{add-one}
use native.Mathlib.Omega.{arith}
use Rattle.round.proofs.all_free.Goals as goal

pub loop-b-preserved : goal.loop-b-preserved
loop-b-preserved c = rw add-one (omega arith)
