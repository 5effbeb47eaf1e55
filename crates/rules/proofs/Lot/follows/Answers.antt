use borrow.Author.Tests.{lt-ltb, le-ltb}
use Rattle.rules.proofs.Lot.follows.Goals as goal

pub returns-then-self-le0 : goal.returns-then-self-le0
returns-then-self-le0 c = search (lt-ltb, le-ltb)

pub returns : goal.returns
returns c = search (lt-ltb, le-ltb)
