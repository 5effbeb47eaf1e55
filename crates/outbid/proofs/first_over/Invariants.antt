use mathlib.Core.Path.{◌≡◌}
use Rattle.std.specs.Prelude.{None}
use Rattle.rules.specs.Count.{first_up_to}
use Rattle.outbid.specs.Loss.{over_by}
use Rattle.outbid.proofs.first_over.Given as goal

abbrev pub invariant-loop-p : goal.invariant-loop-p
invariant-loop-p l = first_up_to (over_by l.held l.kept l.targets l.ticks) l.p ≡ None
