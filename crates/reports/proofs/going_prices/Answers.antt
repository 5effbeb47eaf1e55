use borrow.Author.Rules.{rules}
use borrow.Author.Tests.{tests}
use Rattle.rules.specs.Report.{going_on}
use Rattle.rules.specs.Layout.{loaded}
use Rattle.rules.proofs.Made.{made}
use Rattle.reports.proofs.going_prices.Goals as goal

pub returns : goal.returns
returns c = let a = loaded c.args.s.now in made (going_on a) 8 (λ i y q l k. search (rules, tests)) c.from_fn.ensures.items
