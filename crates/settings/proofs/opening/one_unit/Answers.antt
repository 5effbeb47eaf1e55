use mathlib.Core.Bool.{true, cond}
use mathlib.Core.Path.{refl}
use borrow.Author.Rules.{rules}
use borrow.Author.Tests.{tests}
use lib.Dec.{ltb, eqb}
use Rattle.rules.specs.Units.{unit_of, unit_number}
use Rattle.rules.specs.Settings.{product_at}
use Rattle.rules.proofs.Ranges.{all_below}
use Rattle.settings.proofs.opening.one_unit.Goals as goal

pub returns : goal.returns
returns c =
    let s = c.args.s in
    all_below (λ p. cond (ltb p s.products) (eqb (unit_of (product_at s p).start) (unit_number s.unit)) true) 8 refl (λ x b q k. search (rules, tests)) c.all.ensures.ran
