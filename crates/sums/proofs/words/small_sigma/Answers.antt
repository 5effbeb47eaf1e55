-- `small_sigma` meets its contract. Assumes nothing.
use Rattle.sums.specs.Words.{small_sigma}
use Rattle.sums.proofs.words.small_sigma.Goals as goal

pub returns : goal.returns
unfolding small_sigma
returns c = rw (c.rotr-2.ensures, c.rotr.ensures)
