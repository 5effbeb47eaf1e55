use Rattle.rules.specs.Layout.{lots_read}
use Rattle.book.proofs.lots.Goals as goal

pub returns : goal.returns
unfolding lots_read
returns c = cc
