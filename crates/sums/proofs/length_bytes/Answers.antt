-- `length_bytes` meets its contract: the bytes one by one. Assumes nothing.
use Rattle.std.proofs.Common.{rules}
use Rattle.sums.specs.Sum.{length_up_to}
use Rattle.sums.proofs.length_bytes.Goals as goal

pub returns : goal.returns
unfolding length_up_to
returns c = search rules
