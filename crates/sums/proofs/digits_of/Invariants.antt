-- `digits_of` meets its contract: a turn sets a digit. Assumes nothing.
use Rattle.std.proofs.Common.{◌≡◌, length}
use Rattle.sums.specs.Sum.{digits_up_to}
use Rattle.sums.proofs.digits_of.Given as goal

abbrev pub invariant-loop-i : goal.invariant-loop-i
invariant-loop-i l = (length l.out ≡ 64) × (l.out ≡ digits_up_to l.words l.i)
