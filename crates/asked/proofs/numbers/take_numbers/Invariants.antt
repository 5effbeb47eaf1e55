use Rattle.asked.specs.Typed.{typed_from}
use mathlib.Core.Path.{◌≡◌}
use Prim.Native.Nat.{◌≤◌, ◌-◌, max}
use Rattle.asked.proofs.numbers.take_numbers.Given as goal

abbrev pub invariant-loop-k : goal.invariant-loop-k
invariant-loop-k l = ((l.top ≤ 40) × (l.k ≤ max l.n l.top)) × (typed_from l.line l.at l.k (l.top - l.k) l.numbers ≡ typed_from l.line l.initial.at l.n (l.top - l.n) l.initial.numbers)
