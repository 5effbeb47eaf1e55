use mathlib.Core.Path.{◌≡◌}
use Rattle.keep.specs.Search.{noted, highest_up_to}
use Rattle.keep.proofs.Searches.{rank_at}
use Rattle.keep.proofs.lost.Given as goal

abbrev pub invariant-loop-p : goal.invariant-loop-p
invariant-loop-p l = l.best ≡ noted (rank_at l.ranks l.b) (highest_up_to l.ranks l.b l.p)
