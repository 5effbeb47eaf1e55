use mathlib.Core.Bool.{◌&&◌}
use mathlib.Core.Path.{◌≡◌, ◌∙◌, ap, ap₂}
use native.Mathlib.Numerals.{add-one}
use native.Mathlib.Omega.{arith}
use lib.Dec.{ltb}
use Rattle.rules.specs.Bid.{record_of}
use Rattle.rules.specs.Count.{all_up_to, sum_up_to}
use Rattle.rules.specs.Held.{held, kept_in}
use Rattle.rules.specs.Layout.{loaded}
use Rattle.legal.proofs.Passing.{none_yet, one_yet, stands_past, stands_used}
use Rattle.legal.proofs.holdings.column_of.Goals as goal

pub loop-b-init : goal.loop-b-init
loop-b-init c = none_yet

pub loop-b-preserved : goal.loop-b-preserved
loop-b-preserved c =
    let a = loaded c.args.s.now in
    let p = c.args.p in
    let r = c.record-r.ensures in
    one_yet c.loop-b.invariant r c.held-held.ensures c.kept-kept.ensures
    (c.record_stands-ok.ensures
    ∙ stands_used a p c.loop-b.b c.requires.1 (omega arith) (ap (ltb p) c.products.ensures.0)
    c.price-price.ensures.1 c.before-before.ensures.1 c.cap-cap.ensures r)

pub loop-b-2-init : goal.loop-b-2-init
loop-b-2-init c = let e : c.loop-b.b ≡ c.bidders-n.result = omega arith in rw e at c.loop-b.invariant.passed

pub loop-b-2-preserved : goal.loop-b-2-preserved
unfolding all_up_to
loop-b-2-preserved c =
    rw add-one
    (ap₂ ◌&&◌ c.loop-b-2.invariant
    (c.is_zero-ok.ensures ∙ stands_past (loaded c.args.s.now) c.args.p c.loop-b-2.b c.requires.1 (omega (arith, c.bidders-n.ensures.0)) c.record.ensures))

pub returns : goal.returns
returns c =
    let a = loaded c.args.s.now in
    let p = c.args.p in
    let v = c.loop-b in
    let e : v.b ≡ a.terms.bidders = omega (arith, c.bidders-n.ensures.0) in
    let l = v.invariant.few in
    let n = c.requires.0.counts.bidders in
    let d : c.loop-b-2.b ≡ 32 = omega (arith, c.bidders-n.ensures.0) in
    record {
      held = v.invariant.held ∙ ap (λ n. held a.records n p) e;
      few = omega arith;
      kept = v.invariant.kept ∙ ap (sum_up_to (λ b. kept_in (record_of a b p))) e;
      stands = rw d at c.loop-b-2.invariant;
    }
