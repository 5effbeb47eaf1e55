use mathlib.Core.Path.{◌≡◌}
use Prim.Native.Nat.{◌≤◌, ◌*◌}
use Rattle.rules.specs.Count.{sum_up_to}
use Rattle.rules.specs.Cutback.{given_for}
use Rattle.cutback.proofs.volume.Given as goal

abbrev pub invariant-loop-target : goal.invariant-loop-target
invariant-loop-target l = (l.sum ≤ 65535 * l.target-index) × (l.sum ≡ sum_up_to (given_for l.fn.targets) l.target-index)
