use Rattle.std.proofs.Common.{◌*◌, ◌≤◌}
use Rattle.story.proofs.denied_of.Given as goal

abbrev pub invariant-loop-k : goal.invariant-loop-k
invariant-loop-k l = l.sum ≤ 65535 * l.k
