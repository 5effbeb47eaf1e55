use mathlib.Core.Path.{refl}
use borrow.Author.Rules.{rules}
use borrow.Author.Tests.{tests}
use Rattle.rules.specs.Layout.{loaded}
use Rattle.rules.specs.Legal.{product_stands}
use Rattle.rules.proofs.Ranges.{all_below}
use Rattle.legal.proofs.holdings.products_stand.Goals as goal

pub returns : goal.returns
returns c = all_below (product_stands (loaded c.args.s.now)) 8 refl (λ x b q k. search (rules, tests)) c.all.ensures.ran
