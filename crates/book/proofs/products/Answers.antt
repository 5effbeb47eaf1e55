use mathlib.Core.Path.{◌∙◌}
use Rattle.book.proofs.Loaded.{products_at}
use borrow.Author.Rules.{rules}
use Rattle.book.proofs.products.Goals as goal

pub returns : goal.returns
returns c = (c.byte.ensures.0 ∙ products_at _, search rules)
