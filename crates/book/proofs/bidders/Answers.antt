use mathlib.Core.Path.{◌∙◌}
use Rattle.book.proofs.Loaded.{bidders_at}
use borrow.Author.Rules.{rules}
use Rattle.book.proofs.bidders.Goals as goal

pub returns : goal.returns
returns c = (c.byte.ensures.0 ∙ bidders_at _, search rules)
