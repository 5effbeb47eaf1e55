-- `storing::marks` meets its contract. The parts passed are written. Assumes nothing.
use Prim.Native.Nat.{◌+◌}
use lib.ListN.{get_or}
use Rattle.rules.specs.Layout.{byte1, product_width, products_from}
use Rattle.storing.proofs.Each.{Passed}
use Rattle.storing.proofs.marks.Given as goal

abbrev pub invariant-loop-p : goal.invariant-loop-p
invariant-loop-p l = Passed (λ k. byte1 (get_or l.marks k 0)) (products_from + 11) product_width 8 l.p l.initial.s l.s
