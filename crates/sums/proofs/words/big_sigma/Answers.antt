-- `big_sigma` meets its contract. Assumes nothing.
use Rattle.sums.specs.Words.{big_sigma}
use Rattle.sums.proofs.words.big_sigma.Goals as goal

pub returns : goal.returns
unfolding big_sigma
returns c = rw (c.rotr-3.ensures, c.rotr-2.ensures, c.rotr.ensures)
