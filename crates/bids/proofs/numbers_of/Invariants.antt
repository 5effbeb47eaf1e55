use Prim.Native.Nat.{◌≤◌}
use Rattle.rules.specs.Bid.{on_product, record_of}
use Rattle.rules.specs.Layout.{loaded}
use Rattle.bids.specs.Tally.{Numbers}
use Rattle.bids.proofs.numbers_of.Given as goal

abbrev pub invariant-loop-p : goal.invariant-loop-p
invariant-loop-p l = (l.p ≤ l.m) × Numbers l.p (record_of (loaded l.s) l.b) (on_product l.lines) l.counts
