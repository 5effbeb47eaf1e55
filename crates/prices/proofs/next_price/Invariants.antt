use mathlib.Core.Path.{◌≡◌}
use Rattle.rules.specs.Price.{decrement_up_to}
use Rattle.rules.specs.Layout.{loaded}
use Rattle.prices.proofs.next_price.Given as goal

abbrev pub invariant-loop-i : goal.invariant-loop-i
invariant-loop-i l = l.decrement.0 ≡ decrement_up_to (loaded l.s).decrements l.percent l.i
