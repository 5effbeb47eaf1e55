use Prim.Native.Nat.{◌-◌}
use Rattle.rules.specs.Keep.{kept}
use Rattle.rules.specs.Plain.{keep_many}
use Rattle.rules.specs.Round.{drawn}
use Rattle.table.specs.Rows.{places_in}
use Rattle.plain.proofs.Loops.{Many}
use Rattle.plain.proofs.keep_many.Given as goal

abbrev pub invariant-loop : goal.invariant-loop
invariant-loop l = Many l.products l.bidders l.draw l.p (keep_many l.products l.bidders (drawn l.draw) l.many (kept (places_in l.initial.ps) l.count) l.p) (places_in l.ps) l.held l.turns l.ranks
    l.all (l.many - l.counter)
