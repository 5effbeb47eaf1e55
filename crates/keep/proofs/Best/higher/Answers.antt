use borrow.Author.Tests.{lt-ltb, le-ltb}
use Rattle.keep.proofs.Best.higher.Goals as goal

pub returns-then-self-rank : goal.returns-then-self-rank
returns-then-self-rank c = search (lt-ltb, le-ltb)

pub returns : goal.returns
returns c = search (lt-ltb, le-ltb)
