use mathlib.Core.Path.{◌∙◌}
use Rattle.rules.proofs.Units.{priced}
use Rattle.book.proofs.Loaded.{start_at}
use Rattle.book.proofs.start.Goals as goal

pub returns : goal.returns
returns c =
    priced c.of.ensures c.unit.ensures
    (c.three.ensures ∙ start_at _ _ c.requires.1)
