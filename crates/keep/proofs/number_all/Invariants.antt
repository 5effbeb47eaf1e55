use mathlib.Core.Path.{◌≡◌}
use Prim.Native.Nat.{ℕ, ◌<◌}
use lib.ListN.{get_or, length}
use Rattle.rules.specs.Accept.{place_at}
use Rattle.keep.specs.Step.{Timed, Ranked}
use Rattle.table.specs.Rows.{places_in}
use Rattle.keep.proofs.number_all.Given as goal

abbrev pub invariant-loop-k : goal.invariant-loop-k
invariant-loop-k l = (length l.turns ≡ 256) × (length l.ranks ≡ 256) × ((j : ℕ) → j < l.k → Timed (get_or l.turns j 0) (place_at (places_in l.ps) j))
    × ((j : ℕ) → j < l.k → Ranked (get_or l.ranks j 0) (place_at (places_in l.ps) j))
