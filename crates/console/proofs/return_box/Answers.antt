use Rattle.console.proofs.Opening.{return_1, return_done}
use borrow.Author.Rules.{rules}
use Rattle.console.proofs.return_box.Goals as goal

pub returns-then-long-ne-STATE : goal.returns-then-long-ne-STATE
returns-then-long-ne-STATE c = return_1 _ (search rules)

pub returns : goal.returns
returns c = return_done _ (search rules) _ c.clear.ensures
