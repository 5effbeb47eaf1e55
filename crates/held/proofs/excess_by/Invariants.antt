use mathlib.Core.Path.{◌≡◌}
use Prim.Native.Nat.{◌*◌, ◌≤◌}
use Rattle.rules.specs.Count.{sum_up_to}
use Rattle.rules.specs.Held.{above_zero, free_of, standing_of}
use Rattle.rules.specs.Layout.{loaded}
use Rattle.held.proofs.excess_by.Given as goal

abbrev pub invariant-loop-p : goal.invariant-loop-p
invariant-loop-p l = (l.p ≤ l.m) × ((l.over ≤ 12582720 * l.p) × (l.over ≡ sum_up_to (λ p. above_zero (standing_of (loaded l.s) p)) l.p))

abbrev pub invariant-loop-b : goal.invariant-loop-b
invariant-loop-b l = (l.b ≤ l.n) × ((l.free ≤ 65535 * l.b) × (l.free ≡ sum_up_to (free_of (loaded l.s)) l.b))
