use mathlib.Core.Path.{◌≡◌}
use Prim.Native.Nat.{◌≤◌, ◌*◌}
use Rattle.rules.specs.Count.{sum_up_to}
use Rattle.rules.specs.Settings.{target_of}
use Rattle.settings.proofs.statewide_limits.Given as goal

abbrev pub invariant-loop-p : goal.invariant-loop-p
invariant-loop-p l = (l.p ≤ l.n) × ((l.sum ≤ 65535 * l.p) × (l.sum ≡ sum_up_to (target_of l.t) l.p))
