use mathlib.Core.Path.{◌∙◌}
use Rattle.book.proofs.Loaded.{rows_at}
use borrow.Author.Rules.{rules}
use Rattle.book.proofs.rows.Goals as goal

pub returns : goal.returns
returns c = (c.byte.ensures.0 ∙ rows_at _, search rules)
