use borrow.Author.Tests.{lt-ltb, le-ltb}
use Rattle.rules.proofs.Lot.leads.Goals as goal

pub returns-then-self-gt0 : goal.returns-then-self-gt0
returns-then-self-gt0 c = search (lt-ltb, le-ltb)

pub returns : goal.returns
returns c = search (lt-ltb, le-ltb)
