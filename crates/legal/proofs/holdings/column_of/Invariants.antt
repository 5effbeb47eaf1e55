use mathlib.Core.Path.{◌≡◌}
use Rattle.rules.specs.Count.{all_up_to}
use Rattle.rules.specs.Layout.{loaded}
use Rattle.legal.proofs.Passing.{Part, stands_on}
use Rattle.legal.proofs.holdings.column_of.Given as goal

abbrev pub invariant-loop-b : goal.invariant-loop-b
invariant-loop-b l = Part (loaded l.s) l.p l.b l.held l.kept l.ok

abbrev pub invariant-loop-b-2 : goal.invariant-loop-b-2
invariant-loop-b-2 l = l.ok ≡ all_up_to (stands_on (loaded l.s) l.p) l.b
