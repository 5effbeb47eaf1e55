use Rattle.keep.specs.Search.{next_up_to}
use Rattle.rules.specs.Round.{drawn}
use mathlib.Core.Path.{◌≡◌}
use Rattle.keep.proofs.next_turn.Given as goal

abbrev pub invariant-loop-i : goal.invariant-loop-i
invariant-loop-i l = l.best ≡ next_up_to l.turns (drawn l.order) l.p l.i
