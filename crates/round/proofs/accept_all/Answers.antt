use mathlib.Core.Path.{◌≡◌}
use Prim.Native.Nat.{◌/◌, ◌%◌}
use native.Mathlib.Nat.{mod-lt}
use native.Mathlib.Omega.{arith}
use lib.ListN.{length-set}
use Rattle.rules.specs.Accept.{nowhere, accepted}
use Rattle.rules.specs.Bid.{record_of, bid_on}
use Rattle.rules.specs.Layout.{loaded}
use Rattle.rules.proofs.Lists.{list_is}
use Rattle.table.proofs.Laws.{filled_next}
use Rattle.table.specs.Rows.{places_in}
use Rattle.table.proofs.Rows.{rows_long}
use Rattle.round.proofs.Bids.{accepted_here}
use Rattle.round.proofs.accept_all.Goals as goal

pub loop-k-init : goal.loop-k-init
loop-k-init c = (omega arith, (rows_long _ 256 c.requires.places, λ j l. absurd (let z : ⊥ = omega arith in z)))

pub loop-k-preserved : goal.loop-k-preserved
loop-k-preserved c =
    let v = c.loop-k in
    let a = loaded c.args.s.now in
    let k = v.k in
    let e = accepted_here a c.args.ticks.now c.requires.ticks k (mod-lt k (omega arith)) c.bid_of-bid.result c.accept.result
    c.has_filed.ensures c.line-l.ensures c.before-in-loop-k.ensures.1 c.record-r.ensures c.bid_of-bid.ensures c.accept.ensures in (
      omega arith,
      rw c.put.ensures (
        simp length-set v.invariant.1.0,
        filled_next (λ j x. x ≡ accepted (record_of a (j / 8) (j % 8)) (bid_on a (j / 8) (j % 8))) nowhere (places_in v.ps) k c.accept.result (omega (arith, v.invariant.1.0)) e v.invariant.1.1,
      ),
    )

pub returns : goal.returns
returns c =
    let a = loaded c.args.s.now in
    let v = c.loop-k in
    list_is (λ k. accepted (record_of a (k / 8) (k % 8)) (bid_on a (k / 8) (k % 8))) nowhere 256 (places_in v.ps) v.invariant.1.0
    (λ i l. v.invariant.1.1 i (omega (arith, l, c.loop-k-test.false)))
