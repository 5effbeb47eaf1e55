use Rattle.rules.specs.Keep.{kept}
use Rattle.table.specs.Rows.{places_in}
use Rattle.plain.proofs.Loops.{Visited}
use Rattle.plain.proofs.pass.Given as goal

abbrev pub invariant-loop-i : goal.invariant-loop-i
invariant-loop-i l = Visited l.products l.bidders l.targets l.ticks l.draw l.order (kept (places_in l.initial.ps) l.count) (places_in l.ps) l.held l.turns l.ranks l.all l.i
