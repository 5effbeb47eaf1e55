use mathlib.Core.Path.{◌≡◌}
use Rattle.rules.specs.Outbid.{deemed_up_to}
use Rattle.held.specs.Ticks.{is_one}
use Rattle.table.specs.Room.{Room}
use Rattle.table.specs.Rows.{places_in}
use Rattle.outbid.proofs.deem_all.Given as goal

abbrev pub invariant-loop-k : goal.invariant-loop-k
invariant-loop-k l = (places_in l.ps ≡ deemed_up_to (is_one l.ticks) (places_in l.initial.ps) l.k) × Room (places_in l.ps)
