use mathlib.Core.Path.{◌∙◌}
use Rattle.rules.proofs.Units.{priced}
use Rattle.book.proofs.Loaded.{price_at_lem}
use Rattle.book.proofs.price.Goals as goal

pub returns : goal.returns
returns c =
    priced c.of.ensures c.unit.ensures
    (c.three.ensures ∙ price_at_lem _ _ c.requires.1)
