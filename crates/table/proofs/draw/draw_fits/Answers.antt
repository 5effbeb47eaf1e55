use mathlib.Core.Bool.{◌&&◌}
use mathlib.Core.Path.{refl, ap₂}
use borrow.Author.Rules.{rules}
use borrow.Author.Tests.{tests, eq-eqb, ne_eqb}
use lib.Dec.{eqb, ltb}
use Rattle.std.specs.Prelude.{is_some}
use Rattle.rules.specs.Count.{first_up_to}
use Rattle.rules.specs.Round.{drawn}
use Rattle.rules.proofs.Ranges.{all_below}
use Rattle.table.proofs.draw.draw_fits.Goals as goal

pub returns-then-order-bidders : goal.returns-then-order-bidders
returns-then-order-bidders c = search (ne_eqb)

pub returns : goal.returns
returns c =
    let d = c in
    let a = d.args in
    rw (eq-eqb _ _ d.if-order-bidders.false)
    (ap₂ ◌&&◌ (all_below (λ i. ltb (drawn a.order.now i) a.bidders) a.bidders refl (λ x b q k. search (rules, tests)) d.all-known.ensures.ran)
    (all_below (λ b. is_some (first_up_to (λ i. eqb (drawn a.order.now i) b) a.bidders)) a.bidders refl (λ x b q k. search (rules, tests)) c.all.ensures.ran))
