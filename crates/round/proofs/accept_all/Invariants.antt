use mathlib.Core.Path.{◌≡◌}
use Prim.Native.Nat.{ℕ, ◌≤◌, ◌<◌, ◌/◌, ◌%◌}
use lib.ListN.{length}
use Rattle.rules.specs.Accept.{place_at, accepted}
use Rattle.rules.specs.Bid.{record_of, bid_on}
use Rattle.rules.specs.Layout.{loaded}
use Rattle.table.specs.Rows.{places_in}
use Rattle.round.proofs.accept_all.Given as goal

abbrev pub invariant-loop-k : goal.invariant-loop-k
invariant-loop-k l = (l.k ≤ 256)
    × ((length (places_in l.ps) ≡ 256)
    × ((j : ℕ) → j < l.k → place_at (places_in l.ps) j ≡ accepted (record_of (loaded l.s) (j / 8) (j % 8)) (bid_on (loaded l.s) (j / 8) (j % 8))))
