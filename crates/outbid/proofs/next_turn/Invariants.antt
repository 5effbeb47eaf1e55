use mathlib.Core.Path.{◌≡◌}
use Rattle.rules.specs.Round.{drawn}
use Rattle.table.specs.Next.{soonest}
use Rattle.table.specs.Rows.{places_in}
use Rattle.outbid.specs.Loss.{turn_at, Small}
use Rattle.outbid.proofs.next_turn.Given as goal

abbrev pub invariant-loop-i : goal.invariant-loop-i
invariant-loop-i l = (l.best ≡ soonest (turn_at l.bidders (drawn l.order) (places_in l.ps) l.p) l.i) × Small l.i (drawn l.order) (places_in l.ps) l.p
