-- A name's mark is left behind in each turn. Assumes nothing.
use Rattle.std.proofs.Common.{length}
use Rattle.names.proofs.put_all.Given as goal

abbrev pub decreases-loop-at : goal.decreases-loop-at
decreases-loop-at l = length l.rest
