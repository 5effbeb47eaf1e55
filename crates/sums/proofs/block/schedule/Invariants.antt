-- `schedule` meets its contract: a turn enters a word. Assumes nothing.
use Rattle.std.proofs.Common.{◌≡◌, length}
use Rattle.sums.specs.Block.{schedule_up_to}
use Rattle.sums.proofs.block.schedule.Given as goal

abbrev pub invariant-loop-t : goal.invariant-loop-t
invariant-loop-t l = (length l.w ≡ 64) × (l.w ≡ schedule_up_to l.block l.t)
