use borrow.Author.Tests.{lt-ltb, le-ltb}
use Rattle.reports.proofs.exit_of.Goals as goal

pub returns-then-l-gt0 : goal.returns-then-l-gt0
returns-then-l-gt0 c = rw (lt-ltb 0 _ c.if-l-gt0.true) c.of-exit.ensures

pub returns : goal.returns
returns c = rw (le-ltb 0 _ c.if-l-gt0.false) c.of.ensures
