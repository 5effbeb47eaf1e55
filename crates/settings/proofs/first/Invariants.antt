use mathlib.Core.Path.{◌≡◌}
use mathlib.Core.Bool.{Bool, true, not}
use Prim.Native.Nat.{ℕ, ◌<◌}
use Rattle.rules.specs.Count.{all_up_to}
use Rattle.settings.specs.declared.Fault.{Fault}
use Rattle.settings.proofs.first.Given as goal

abbrev pub invariant-loop-i : goal.invariant-loop-i
invariant-loop-i g l = (within : ℕ → Bool) → ((i : ℕ) (f : Fault) → i < l.n → goal.F-post g l.fault i f → f.found ≡ not (within i)) → all_up_to within l.i ≡ true
