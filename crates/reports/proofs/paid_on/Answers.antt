use mathlib.Core.Path.{◌∙◌}
use Rattle.rules.specs.Layout.{loaded}
use native.Mathlib.Omega.{arith}
use borrow.Author.Tests.{eq-eqb, ne_eqb}
use Rattle.rules.specs.Report.{highest_up_to}
use Rattle.rules.proofs.Units.{amount_of_lem}
use Rattle.reports.proofs.paid_on.Goals as goal

pub returns-then-amount-eq0 : goal.returns-then-amount-eq0
returns-then-amount-eq0 c =
    let a = loaded c.args.s.now in
    let p = c.args.p in
    let m = highest_up_to a p a.terms.bidders in
    rw (eq-eqb m 0 (omega (arith, amount_of_lem a.terms.unit m c.highest-most.ensures, c.amount.ensures))) c.price.ensures.0

pub returns : goal.returns
returns c =
    let a = loaded c.args.s.now in
    let p = c.args.p in
    let m = highest_up_to a p a.terms.bidders in
    rw (ne_eqb m 0 (λ z. c.if-amount-eq0.false (c.amount.ensures ∙ amount_of_lem a.terms.unit m c.highest-most.ensures ∙ z))) c.highest-most.ensures
