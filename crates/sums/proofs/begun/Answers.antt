-- `begun` meets its contract: no byte so far. Assumes nothing.
use Rattle.sums.specs.Sum.{hash_up_to}
use Rattle.std.proofs.Common.{rules}
use Rattle.sums.proofs.begun.Goals as goal

pub returns : goal.returns
unfolding hash_up_to
returns c = search rules
