use borrow.Author.Rules.{rules}
use borrow.Author.Tests.{tests}
use Rattle.asked.specs.Asked.{bidder_asked}
use Rattle.rules.proofs.Made.{made}
use Rattle.asked.proofs.opening.bidders_of.Goals as goal

pub returns : goal.returns
returns c = made (bidder_asked c.args.numbers) 32 (λ x y q l k. search (rules, tests)) c.from_fn.ensures.items
