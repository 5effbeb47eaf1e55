use Prim.Native.Nat.{◌%◌}
use Rattle.rules.specs.Lots.{no_lots}
use Rattle.rules.specs.Held.{record_at, set_to}
use Rattle.rules.specs.Accept.{at}
use Rattle.rules.specs.Cutback.{given_for}
use Rattle.rules.specs.Layout.{loaded}
use Rattle.rules.proofs.Fill.{Filled}
use Rattle.table.specs.Rows.{places_in}
use Rattle.cutback.proofs.set_to_caps.Given as goal

abbrev pub invariant-loop-k : goal.invariant-loop-k
invariant-loop-k l = Filled (λ k. at (set_to (record_at (loaded l.s).records k) (given_for l.caps (k % 8))) no_lots 0 0 0) 256 l.k (places_in l.ps)
