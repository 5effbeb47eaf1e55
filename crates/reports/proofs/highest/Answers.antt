use Rattle.rules.specs.Bid.{record_of, price_at, before_at}
use native.Mathlib.Nat.{le_antisymm}
use native.Mathlib.Numerals.{add-one}
use mathlib.Core.Path.{ap, ◌∙◌}
use native.Mathlib.Omega.{arith}
use Rattle.rules.specs.Units.{price_of}
use Rattle.rules.specs.Report.{highest_in, highest_up_to}
use Rattle.rules.specs.Layout.{loaded}
use Rattle.reports.proofs.highest.Goals as goal

pub loop-b-init : goal.loop-b-init
loop-b-init c = (omega arith, c.of-most.ensures ∙ ap (λ u. price_of u 0) c.unit.ensures)

pub loop-b-preserved : goal.loop-b-preserved
loop-b-preserved c =
    let a = loaded c.args.s.now in
    let u = a.terms.unit in
    let p = c.args.p in
    let h = ap (λ r. price_of u (highest_in (price_at a p) (before_at a p) r)) c.record-r.ensures in
    let x = c.highest_in.ensures u (price_at a p) (before_at a p) c.price-price.ensures.0 c.before-before.ensures.0 ∙ h in
    (omega arith, rw add-one (c.higher-most.ensures u (highest_up_to a p c.loop-b.b) (highest_in (price_at a p) (before_at a p) (record_of a c.loop-b.b p)) c.loop-b.invariant.1 x))

pub returns : goal.returns
returns c =
    let a = loaded c.args.s.now in
    c.loop-b.invariant.1
    ∙ ap (λ b. price_of a.terms.unit (highest_up_to a c.args.p b)) (
    le_antisymm c.loop-b.invariant.0 c.loop-b-test.false ∙ c.bidders-n.ensures.0)
