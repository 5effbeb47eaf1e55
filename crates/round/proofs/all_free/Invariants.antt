use mathlib.Core.Path.{◌≡◌}
use Prim.Native.Nat.{◌≤◌, ◌*◌}
use Rattle.rules.specs.Count.{sum_up_to}
use Rattle.rules.specs.Parts.{tranches_at}
use Rattle.round.proofs.all_free.Given as goal

abbrev pub invariant-loop-b : goal.invariant-loop-b
invariant-loop-b l = (l.sum ≤ 65535 * l.b) × (l.sum ≡ sum_up_to (tranches_at l.free) l.b)
