use Prim.Native.Nat.{◌*◌, ◌≤◌}
use Rattle.rules.specs.Accept.{held_of}
use Rattle.table.specs.Rows.{places_in}
use Rattle.table.proofs.Sums.{SumsTo}
use Rattle.table.proofs.held_all.Given as goal

abbrev pub invariant-loop-k : goal.invariant-loop-k
invariant-loop-k l = (l.k ≤ l.bidders * 8) × SumsTo held_of l.held (places_in l.ps) l.k
