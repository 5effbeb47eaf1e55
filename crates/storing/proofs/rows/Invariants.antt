-- `storing::rows` meets its contract. The parts passed are written. Assumes nothing.
use lib.ListN.{get_or}
use Rattle.rules.specs.Parts.{no_row}
use Rattle.rules.specs.Layout.{row_bytes, row_width, rows_from}
use Rattle.storing.proofs.Each.{Passed}
use Rattle.storing.proofs.rows.Given as goal

abbrev pub invariant-loop-i : goal.invariant-loop-i
invariant-loop-i l = Passed (λ i. row_bytes (get_or l.d.row i no_row)) rows_from row_width 8 l.i l.initial.s l.s
