-- `storing::records` meets its contract. The parts passed are written. Assumes nothing.
use Rattle.rules.specs.Accept.{place_at}
use Rattle.rules.specs.Layout.{record_bytes, record_width, records_from}
use Rattle.table.specs.Rows.{places_in}
use Rattle.storing.proofs.Each.{Passed}
use Rattle.storing.proofs.records.Given as goal

abbrev pub invariant-loop-k : goal.invariant-loop-k
invariant-loop-k l = Passed (λ i. record_bytes (place_at (places_in l.ps) i).holds) records_from record_width 256 l.k l.initial.s l.s
