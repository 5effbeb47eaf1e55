use mathlib.Core.Bool.{◌&&◌}
use mathlib.Core.Path.{refl, ap₂}
use borrow.Author.Rules.{rules}
use borrow.Author.Tests.{tests}
use lib.Dec.{eqb}
use Rattle.rules.specs.Bid.{before_at, price_at}
use Rattle.rules.specs.Held.{free_of, record_at}
use Rattle.rules.specs.Layout.{loaded}
use Rattle.rules.specs.Legal.{record_zero}
use Rattle.rules.specs.Settings.{setup, initial_of, start_of}
use Rattle.rules.proofs.Ranges.{all_below}
use Rattle.legal.proofs.phases.as_opened.Goals as goal

pub returns : goal.returns
returns c =
    let a = loaded c.args.s.now in
    let t = setup a in
    ap₂ ◌&&◌ (all_below (λ k. record_zero (record_at a.records k)) 256 refl (λ x b q k. search (rules, tests)) c.all-records.ensures.ran)
    (ap₂ ◌&&◌ (all_below (λ b. eqb (free_of a b) (initial_of t b)) 32 refl (λ x b q k. search (rules, tests)) c.all-free.ensures.ran)
    (all_below (λ p. eqb (price_at a p) (start_of t p) && eqb (before_at a p) (start_of t p)) 8 refl (λ x b q k. search (rules, tests)) c.all-prices.ensures.ran))
