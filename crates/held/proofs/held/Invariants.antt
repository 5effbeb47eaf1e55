use mathlib.Core.Path.{◌≡◌}
use Prim.Native.Nat.{◌*◌, ◌≤◌}
use Rattle.rules.specs.Held.{held}
use Rattle.rules.specs.Layout.{loaded}
use Rattle.held.proofs.held.Given as goal

abbrev pub invariant-loop-b : goal.invariant-loop-b
invariant-loop-b l = (l.b ≤ l.n) × ((l.sum ≤ 393210 * l.b) × (l.sum ≡ held (loaded l.s).records l.b l.p))
