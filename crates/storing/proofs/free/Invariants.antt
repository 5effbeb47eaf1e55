-- `storing::free` meets its contract. The parts passed are written. Assumes nothing.
use Prim.Native.Nat.{◌+◌}
use Rattle.rules.specs.Parts.{tranches_at}
use Rattle.rules.specs.Layout.{bytes2, bidder_width, bidders_from}
use Rattle.storing.proofs.Each.{Passed}
use Rattle.storing.proofs.free.Given as goal

abbrev pub invariant-loop-b : goal.invariant-loop-b
invariant-loop-b l = Passed (λ b. bytes2 (tranches_at l.free b)) (bidders_from + 2) bidder_width 32 l.b l.initial.s l.s
