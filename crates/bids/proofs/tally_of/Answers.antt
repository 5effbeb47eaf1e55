use mathlib.Core.Path.{◌∙◌, refl}
use native.Mathlib.Nat.{le_antisymm}
use native.Mathlib.Omega.{arith}
use borrow.Author.Rules.{rules}
use Rattle.rules.specs.Count.{all_up_to}
use Rattle.bids.proofs.More.{kept_none, kept_more, small_8, sums_more}
use Rattle.bids.proofs.tally_of.Goals as goal

pub loop-p-init : goal.loop-p-init
unfolding all_up_to
loop-p-init c = (
  search rules,
  record {
    sums = record { going = refl; bid = refl; reduced = refl; increased = refl; withdrawn = refl; rising = refl };
    small = record {
      going = omega arith;
      bid = omega arith;
      reduced = omega arith;
      increased = omega arith;
      withdrawn = omega arith;
      rising = omega arith;
    };
    kept = kept_none c.at_first-kept.ensures;
  },
)

pub with-sums-requires : goal.with-sums-requires
with-sums-requires c =
    let t = c in
    small_8 t.loop-p.invariant.1.small (omega (arith, t.loop-p.invariant.0, t.products-m.ensures.0, t.requires.lent.counts.products))

pub loop-p-preserved : goal.loop-p-preserved
loop-p-preserved c =
    let l = c in
    let f = l in
    let k = f in
    let h = k in
    let d = h in
    let v = h.loop-p.invariant.1 in
    let e = l.record-r.ensures in
    let t = d.requires.ticks h.loop-p.p (omega (arith, k.loop-p-test.true, h.products-m.ensures.0, d.requires.lent.counts.products)) in (
      omega (arith, k.loop-p-test.true),
      record {
        sums = sums_more v.sums (rw e at c.with-sums.ensures.0);
        small = c.with-sums.ensures.1 _ v.small;
        kept = kept_more v.kept (rw (e, k.cap-cap.ensures, t, f.price-price.ensures.1, f.before-before.ensures.1) at c.with-kept.ensures);
      },
    )

pub returns : goal.returns
returns c =
    let v = c.loop-p.invariant in
    rw (le_antisymm v.0 c.loop-p-test.false ∙ c.products-m.ensures.0) at v.1
