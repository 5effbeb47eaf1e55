use mathlib.Core.Path.{◌≡◌}
use Prim.Native.Nat.{◌*◌, ◌≤◌}
use Rattle.rules.specs.Bid.{record_of}
use Rattle.rules.specs.Count.{sum_up_to}
use Rattle.rules.specs.Held.{held_in}
use Rattle.rules.specs.Layout.{loaded}
use Rattle.legal.proofs.holdings.bidder_stands.Given as goal

abbrev pub invariant-loop-p : goal.invariant-loop-p
invariant-loop-p l = (l.p ≤ l.m) × ((l.sum ≤ 393210 * l.p) × (l.sum ≡ sum_up_to (λ p. held_in (record_of (loaded l.s) l.b p)) l.p))
