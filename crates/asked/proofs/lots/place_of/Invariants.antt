use Rattle.asked.specs.Lots.{place_of}
use mathlib.Core.Path.{◌≡◌}
use Prim.Native.Nat.{◌≤◌, ◌-◌}
use Rattle.asked.proofs.lots.place_of.Given as goal

abbrev pub invariant-loop-i : goal.invariant-loop-i
invariant-loop-i l = ((l.at ≤ l.i) × (l.i ≤ l.e)) × (place_of l.s l.b l.i (l.e - l.i) ≡ place_of l.s l.b l.at (l.e - l.at))
