-- `storing::slot` meets its contract. The parts passed are written. Assumes nothing.
use lib.ListN.{get_or}
use Rattle.rules.specs.Card.{no_line}
use Rattle.rules.specs.Layout.{line_bytes, line_width}
use Rattle.storing.proofs.Each.{Passed}
use Rattle.storing.proofs.slot.Given as goal

abbrev pub invariant-loop-p : goal.invariant-loop-p
invariant-loop-p l = Passed (λ k. line_bytes (get_or l.lines k no_line)) l.from line_width 8 l.p l.initial.s l.s
