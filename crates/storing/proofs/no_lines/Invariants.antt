-- `storing::no_lines` meets its contract. The parts passed are written. Assumes nothing.
use Rattle.rules.specs.Card.{no_line}
use Rattle.rules.specs.Layout.{line_bytes, line_width, bids_from}
use Rattle.storing.proofs.Each.{Passed}
use Rattle.storing.proofs.no_lines.Given as goal

abbrev pub invariant-loop-k : goal.invariant-loop-k
invariant-loop-k l = Passed (λ b. line_bytes no_line) bids_from line_width 256 l.k l.initial.s l.s
