use borrow.Author.Tests.{lt-ltb, le-ltb}
use Rattle.keep.proofs.rank_of.Goals as goal

pub returns-then-l-gt0 : goal.returns-then-l-gt0
returns-then-l-gt0 c = search (lt-ltb, le-ltb)

pub returns : goal.returns
returns c = search (lt-ltb, le-ltb)
