use mathlib.Core.Path.{◌≡◌}
use Prim.Native.Nat.{◌*◌, ◌≤◌}
use Rattle.rules.specs.Accept.{place_at, held_of, kept_of}
use Rattle.rules.specs.Count.{sum_up_to}
use Rattle.table.specs.Rows.{places_in}
use Rattle.table.proofs.Sums.{SumsTo}
use Rattle.outbid.proofs.sum_all.Given as goal

abbrev pub invariant-loop-k : goal.invariant-loop-k
invariant-loop-k l = SumsTo held_of l.held (places_in l.ps) l.k × SumsTo kept_of l.kept (places_in l.ps) l.k
    × (l.all ≡ sum_up_to (λ j. kept_of (place_at (places_in l.ps) j)) l.k) × (l.all ≤ 327675 * l.k)
