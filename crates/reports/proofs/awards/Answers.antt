use borrow.Author.Rules.{rules}
use borrow.Author.Tests.{tests}
use Rattle.rules.specs.Held.{held_in, record_at}
use Rattle.rules.specs.Units.{tranches}
use Rattle.rules.specs.Layout.{loaded}
use Rattle.rules.proofs.Made.{made}
use Rattle.reports.proofs.awards.Goals as goal

pub returns : goal.returns
returns c = let a = loaded c.args.s.now in made (λ k. tranches (held_in (record_at a.records k))) 256 (λ i y q l k. search (rules, tests)) c.from_fn.ensures.items
