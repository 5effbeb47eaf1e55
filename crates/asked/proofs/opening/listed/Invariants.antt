use Prim.Native.Nat.{◌<◌, ◌-◌}
use Rattle.asked.proofs.opening.listed.Given as goal

abbrev pub invariant-loop-n : goal.invariant-loop-n
invariant-loop-n l = 0 < l.each

abbrev pub decreases-loop-n : goal.decreases-loop-n
decreases-loop-n l = l.most - l.n
