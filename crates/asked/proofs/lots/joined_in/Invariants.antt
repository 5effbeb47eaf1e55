use mathlib.Core.Path.{◌≡◌}
use Prim.Native.Nat.{◌-◌, ◌≤◌, ◌<◌}
use Rattle.rules.specs.Lots.{no_lots}
use Rattle.asked.specs.Lots.{lots_from}
use Rattle.asked.proofs.lots.joined_in.Given as goal

abbrev pub invariant-loop-i : goal.invariant-loop-i
invariant-loop-i l = ((l.at ≤ l.e) × (l.e < 18446744073709551616)) × (lots_from l.s l.at l.e l.i (4 - l.i) l.lots ≡ lots_from l.s l.a l.e 0 4 no_lots)
