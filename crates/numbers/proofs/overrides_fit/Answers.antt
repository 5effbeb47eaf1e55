use mathlib.Core.Path.{refl}
use borrow.Author.Rules.{rules}
use borrow.Author.Tests.{tests}
use Rattle.rules.specs.Price.{override_fits}
use Rattle.rules.specs.Round.{override_for}
use Rattle.rules.proofs.Ranges.{all_below}
use Rattle.numbers.proofs.overrides_fit.Goals as goal

pub returns : goal.returns
returns c = all_below (λ p. override_fits (override_for c.args.overrides p)) 8 refl (λ x b q k. search (rules, tests)) c.all.ensures.ran
