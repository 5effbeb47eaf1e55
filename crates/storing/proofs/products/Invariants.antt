-- `storing::products` meets its contract. The parts passed are written. Assumes nothing.
use Rattle.rules.specs.Parts.{lane_at}
use Rattle.rules.specs.Calls.{opened}
use Rattle.rules.specs.Layout.{lane_bytes, product_width, products_from}
use Rattle.storing.proofs.Each.{Passed}
use Rattle.storing.proofs.products.Given as goal

abbrev pub invariant-loop-p : goal.invariant-loop-p
invariant-loop-p l = Passed (λ p. lane_bytes (lane_at (opened l.t) p)) products_from product_width 8 l.p l.initial.s l.s
