use mathlib.Core.Path.{◌≡◌}
use Prim.Native.Nat.{◌+◌, ◌≤◌, ◌-◌}
use Rattle.rules.specs.Count.{sum_up_to}
use Rattle.rules.specs.Held.{going_in, free_of}
use Rattle.rules.specs.Bid.{record_of}
use Rattle.rules.specs.Cutback.{given_for}
use Rattle.rules.specs.Layout.{loaded}
use Rattle.cutback.proofs.free_after.Given as goal

abbrev pub invariant-loop-p : goal.invariant-loop-p
invariant-loop-p l = (l.sum ≡ free_of (loaded l.s) l.b + sum_up_to (λ p. going_in (record_of (loaded l.s) l.b p) - given_for l.caps p) l.p)
    × (l.sum ≤ free_of (loaded l.s) l.b + sum_up_to (λ p. going_in (record_of (loaded l.s) l.b p)) l.p)
