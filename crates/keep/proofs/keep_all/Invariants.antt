use Prim.Native.Nat.{◌-◌}
use Rattle.rules.specs.Keep.{kept_all}
use Rattle.rules.specs.Round.{drawn}
use Rattle.held.specs.Ticks.{is_one}
use Rattle.table.specs.Room.{target_on}
use Rattle.table.specs.Rows.{places_in}
use Rattle.keep.proofs.Turn.{Turn}
use Rattle.keep.proofs.keep_all.Given as goal

abbrev pub invariant-loop : goal.invariant-loop
invariant-loop l = Turn l.products l.bidders l.targets l.ticks l.order
    (kept_all l.products l.bidders (target_on l.targets) (is_one l.ticks) (drawn l.order) (places_in l.initial.ps)) (places_in l.ps) l.held l.turns l.ranks l.count (l.most - l.counter)
