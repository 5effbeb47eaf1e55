-- `storing::bidders` meets its contract. The parts passed are written. Assumes nothing.
use Rattle.rules.specs.Parts.{seat_at}
use Rattle.rules.specs.Calls.{opened}
use Rattle.rules.specs.Layout.{seat_bytes, bidder_width, bidders_from}
use Rattle.storing.proofs.Each.{Passed}
use Rattle.storing.proofs.bidders.Given as goal

abbrev pub invariant-loop-b : goal.invariant-loop-b
invariant-loop-b l = Passed (λ b. seat_bytes (seat_at (opened l.t) b)) bidders_from bidder_width 32 l.b l.initial.s l.s
