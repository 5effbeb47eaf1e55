-- `storing::prices` meets its contract. The parts passed are written. Assumes nothing.
use mathlib.Core.List.{◌++◌}
use Prim.Native.Nat.{◌+◌}
use Rattle.rules.specs.Layout.{bytes3, product_width, products_from}
use Rattle.storing.specs.Written.{amount_at}
use Rattle.storing.proofs.Each.{Passed}
use Rattle.storing.proofs.prices.Given as goal

abbrev pub invariant-loop-p : goal.invariant-loop-p
invariant-loop-p l = Passed (λ k. bytes3 (amount_at l.price k) ++ bytes3 (amount_at l.before k)) (products_from + 5) product_width 8 l.p l.initial.s l.s
