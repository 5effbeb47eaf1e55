-- `sum_of` meets its contract: its bytes follow none. Assumes nothing.
use Rattle.std.proofs.Common.{[]}
use Rattle.sums.proofs.sum_of.Goals as goal

pub returns : goal.returns
returns c = c.digits.ensures _ (c.with.ensures [] c.begun.ensures)
