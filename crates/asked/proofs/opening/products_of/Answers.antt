use borrow.Author.Rules.{rules}
use borrow.Author.Tests.{tests}
use Rattle.asked.specs.Asked.{product_at}
use Rattle.rules.proofs.Made.{made}
use Rattle.asked.proofs.opening.products_of.Goals as goal

pub returns : goal.returns
returns c = made (product_at c.args.priced c.args.numbers) 8 (λ x y q l k. search (rules, tests)) c.from_fn.ensures.items
