use borrow.Author.Rules.{rules}
use borrow.Author.Tests.{tests}
use Rattle.asked.specs.Asked.{row_at}
use Rattle.rules.proofs.Made.{made}
use Rattle.asked.proofs.opening.rows_of.Goals as goal

pub returns : goal.returns
returns c = made (row_at c.args.numbers) 8 (λ x y q l k. search (rules, tests)) c.from_fn.ensures.items
