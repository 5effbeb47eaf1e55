-- `constant` meets its contract: the table is the list. Assumes nothing.
use Rattle.sums.specs.Words.{constants}
use Rattle.std.proofs.Common.{rules}
use Rattle.sums.proofs.words.constant.Goals as goal

pub returns : goal.returns
unfolding constants
returns c = search rules
