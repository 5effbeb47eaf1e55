-- `rounds` meets its contract: a turn is a round. Assumes nothing.
use Rattle.std.proofs.Common.{◌≡◌}
use Rattle.sums.specs.Block.{rounds_up_to}
use Rattle.sums.proofs.block.rounds.Given as goal

abbrev pub invariant-loop-t : goal.invariant-loop-t
invariant-loop-t l = l.v ≡ rounds_up_to l.initial.v l.w l.t
