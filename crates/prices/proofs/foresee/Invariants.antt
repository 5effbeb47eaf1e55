use mathlib.Core.Path.{◌≡◌}
use Prim.Native.Nat.{◌≤◌, ◌*◌}
use Rattle.rules.specs.Count.{sum_up_to}
use Rattle.rules.specs.Held.{above_zero}
use Rattle.rules.specs.Layout.{loaded}
use Rattle.prices.specs.Outlook.{standing_on}
use Rattle.prices.proofs.foresee.Given as goal

abbrev pub invariant-loop-p : goal.invariant-loop-p
invariant-loop-p l = (l.over ≤ 4294967295 * l.p) × (l.over ≡ sum_up_to (λ q. above_zero (standing_on (loaded l.s).decrements l.held l.l q)) l.p)
