use borrow.Author.Rules.{rules}
use Rattle.rules.specs.Layout.{loaded}
use Rattle.book.proofs.filed.Goals as goal

pub returns : goal.returns
unfolding loaded
returns c = search rules
