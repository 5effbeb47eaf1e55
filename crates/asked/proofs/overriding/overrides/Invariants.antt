use mathlib.Core.Path.{◌≡◌}
use lib.ListN.{length, replicate}
use Prim.Native.Nat.{◌-◌}
use Rattle.rules.specs.Round.{not_chosen}
use Rattle.asked.specs.Overrides.{overrides_from}
use Rattle.asked.proofs.overriding.overrides.Given as goal

abbrev pub invariant-loop-n : goal.invariant-loop-n
invariant-loop-n l = (length l.overrides ≡ 8) × (overrides_from l.line l.at (9 - l.n) l.overrides ≡ overrides_from l.line l.initial.at 9 (replicate 8 not_chosen))
