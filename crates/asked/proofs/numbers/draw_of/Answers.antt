use borrow.Author.Rules.{rules}
use borrow.Author.Tests.{tests}
use Rattle.asked.specs.Asked.{drawn_at}
use Rattle.rules.proofs.Made.{made}
use Rattle.asked.proofs.numbers.draw_of.Goals as goal

pub returns : goal.returns
returns c = made (drawn_at c.args.numbers) 40 (λ x y q l k. search (rules, tests)) c.from_fn.ensures.items
