use Prim.Native.Nat.{◌-◌}
use Rattle.rules.specs.Plain.{plain_all}
use Rattle.rules.specs.Round.{drawn}
use Rattle.held.specs.Ticks.{is_one}
use Rattle.table.specs.Room.{target_on}
use Rattle.table.specs.Rows.{places_in}
use Rattle.plain.proofs.Loops.{Turn}
use Rattle.plain.proofs.keep_plain.Given as goal

abbrev pub invariant-loop : goal.invariant-loop
invariant-loop l = Turn l.products l.bidders l.targets l.ticks l.draw l.order
    (plain_all l.products l.bidders (target_on l.targets) (is_one l.ticks) (drawn l.draw) (drawn l.order) (places_in l.initial.ps)) (places_in l.ps) l.held l.turns l.ranks
    l.count (l.most - l.counter)
