use Prim.Native.Nat.{◌-◌}
use Rattle.table.specs.Rows.{places_in}
use Rattle.outbid.proofs.Turn.{Turn}
use Rattle.outbid.proofs.outbid_all.Given as goal

abbrev pub invariant-loop : goal.invariant-loop
invariant-loop l = Turn l.products l.bidders l.targets l.ticks l.order (places_in l.initial.ps) (places_in l.ps) l.held l.kept l.free l.count l.from l.next (l.most - l.counter)
