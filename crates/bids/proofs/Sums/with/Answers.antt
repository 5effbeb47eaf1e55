use native.Mathlib.Omega.{arith}
use lib.Dec.{ltb}
use Rattle.rules.specs.Bid.{increase}
use Rattle.bids.proofs.More.{counts_is}
use Rattle.bids.proofs.Sums.with.Goals as goal

pub returns : goal.returns
returns c = (
  let w = c in
      let a = w.args in
      rw (w.increase-increase.ensures.0, w.total-withdrawn.ensures.0, c.reduction.ensures.0, (counts_is (ltb 0 (increase a.r a.l))).0),
  λ m s.
      let w = c in
      let increased = w.increase-increase in
      let withdrawn = w.total-withdrawn in
      let rising = (counts_is (ltb 0 increased.result)).1 in
      let going = c.struct_known-1 in
      let bid = c.struct_known-3-1 in
      let reduced = c.reduction in
      record {
        going = omega arith;
        bid = omega arith;
        reduced = omega arith;
        increased = omega arith;
        withdrawn = omega arith;
        rising = omega arith;
      },
)
