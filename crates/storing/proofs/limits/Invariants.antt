-- `storing::limits` meets its contract. The parts passed are written. Assumes nothing.
use mathlib.Core.List.{◌++◌}
use Rattle.rules.specs.Parts.{tranches_at}
use Rattle.rules.specs.Layout.{byte1, product_width, products_from}
use Rattle.storing.proofs.Each.{Passed}
use Rattle.storing.proofs.limits.Given as goal

abbrev pub invariant-loop-p : goal.invariant-loop-p
invariant-loop-p l = Passed (λ k. byte1 (tranches_at l.targets k) ++ byte1 (tranches_at l.caps k)) products_from product_width 8 l.p l.initial.s l.s
