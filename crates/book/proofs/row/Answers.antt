use mathlib.Core.Path.{◌∙◌}
use Rattle.book.proofs.Loaded.{percent_at, decrement_at}
use Rattle.book.proofs.row.Goals as goal

pub returns : goal.returns
returns c =
    let h = c.requires.1 in
    (c.two-percent.ensures ∙ percent_at _ _ h, c.two.ensures ∙ decrement_at _ _ h)
