use mathlib.Core.Path.{◌≡◌}
use Prim.Native.Nat.{◌≤◌}
use Rattle.rules.specs.Units.{price_of}
use Rattle.rules.specs.Report.{highest_up_to}
use Rattle.rules.specs.Layout.{loaded}
use Rattle.reports.proofs.highest.Given as goal

abbrev pub invariant-loop-b : goal.invariant-loop-b
invariant-loop-b l = (l.b ≤ l.n) × (l.most ≡ price_of (loaded l.s).terms.unit (highest_up_to (loaded l.s) l.p l.b))
