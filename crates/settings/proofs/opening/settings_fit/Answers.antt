use mathlib.Core.Path.{sym, ◌∙◌}
use Rattle.settings.proofs.opening.settings_fit.Goals as goal

pub returns-then-not-one_unit : goal.returns-then-not-one_unit
returns-then-not-one_unit c = rw (sym c.one_unit.ensures ∙ c.if-not-one_unit.true)

pub returns : goal.returns
returns c =
    let p = c in
    rw (sym p.one_unit.ensures ∙ p.if-not-one_unit.false, ← c.setup_of.ensures) c.within_limits.ensures
