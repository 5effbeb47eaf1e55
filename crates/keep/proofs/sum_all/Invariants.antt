use mathlib.Core.Path.{◌≡◌}
use Prim.Native.Nat.{◌*◌, ◌≤◌}
use Rattle.rules.specs.Accept.{place_at, held_of, left_of}
use Rattle.rules.specs.Count.{sum_up_to}
use Rattle.table.specs.Rows.{places_in}
use Rattle.table.proofs.Sums.{SumsTo}
use Rattle.keep.proofs.sum_all.Given as goal

abbrev pub invariant-loop-k : goal.invariant-loop-k
invariant-loop-k l = SumsTo held_of l.held (places_in l.ps) l.k
    × ((l.left ≡ sum_up_to (λ j. left_of (place_at (places_in l.ps) j)) l.k) × (l.left ≤ 327675 * l.k))
