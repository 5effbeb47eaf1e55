use mathlib.Core.Path.{refl}
use borrow.Author.Rules.{rules}
use borrow.Author.Tests.{tests}
use lib.Dec.{eqb}
use Rattle.rules.specs.Round.{drawn}
use Rattle.rules.proofs.Ranges.{any_below}
use Rattle.table.proofs.draw.is_drawn.Goals as goal

pub returns : goal.returns
returns c =
    let a = c.args in
    any_below (λ i. eqb (drawn a.order.now i) a.b) a.bidders refl (λ x b q k. search (rules, tests)) c.any.ensures.ran
