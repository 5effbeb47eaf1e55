use Prim.Native.Nat.{◌≤◌}
use Rattle.rules.specs.Layout.{loaded}
use Rattle.bids.specs.Tally.{Tallied}
use Rattle.bids.proofs.tally_of.Given as goal

abbrev pub invariant-loop-p : goal.invariant-loop-p
invariant-loop-p l = (l.p ≤ l.m) × Tallied l.p (loaded l.s) l.b l.lines l.sums l.kept
