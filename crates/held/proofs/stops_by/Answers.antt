use mathlib.Core.Bool.{◌&&◌}
use mathlib.Core.Path.{ap}
use borrow.Author.Rules.{rules}
use borrow.Author.Tests.{tests}
use lib.Dec.{eqb}
use Rattle.rules.specs.Bid.{price_at}
use Rattle.rules.specs.Held.{ticked}
use Rattle.rules.specs.Layout.{loaded}
use Rattle.rules.proofs.Ranges.{any_below}
use Rattle.held.proofs.Found.{or_is}
use Rattle.held.proofs.stops_by.Goals as goal

pub returns : goal.returns
returns c =
    let a = loaded c.args.s.now in
    or_is
    (any_below (λ p. ticked a p && eqb (price_at a p) 1) a.terms.products (ap (λ n. record { start = 0; end = n }) c.products-m.ensures.0)
    (λ x b q k. search (rules, tests)) c.any-bottom.ensures.ran)
    (ap (λ x. eqb x 4095) c.round.ensures)
