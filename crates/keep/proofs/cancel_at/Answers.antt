use mathlib.Core.Bool.{cond}
use mathlib.Core.Path.{◌≡◌, refl, sym, ◌∙◌, ap, subst}
use Prim.Native.Nat.{◌<◌, ◌-◌}
use native.Mathlib.Omega.{arith}
use borrow.Author.Tests.{lt-ltb}
use lib.ListN.{get_or, set, length-set}
use lib.Seq.{set-get_or}
use Rattle.rules.specs.Accept.{nowhere, place_at, cancel}
use Rattle.table.specs.Rows.{places_in}
use Rattle.keep.specs.Step.{Each, Ranked, cancel_some}
use Rattle.keep.proofs.Searches.{each_set}
use Rattle.keep.proofs.cancel_at.Goals as goal

pub returns-then-x-eq0 : goal.returns-then-x-eq0
returns-then-x-eq0 c =
    let a = c.args in
    let ps = places_in a.ps.now in
    let held = a.held.now in
    let p = a.x.product in
    let z : get_or held p 0 ≡ get_or held p 0 - a.x.count = omega (arith, c.if-x-eq0.true) in
    record {
      places = sym (ap (λ n. set ps a.k (cancel_some n (place_at ps a.k))) c.if-x-eq0.true ∙ set-get_or ps a.k nowhere);
      sums = sym (ap (set held p) (sym z) ∙ set-get_or held p 0);
      ranks_long = c.requires.ranks_long;
      ranked = c.requires.ranked;
    }

pub cancel-two-requires : goal.cancel-two-requires
cancel-two-requires c =
    let n : 0 < c.args.x.count = omega (arith, c.if-x-eq0.false) in
    let f = c.requires.rises n in
    rw c.place_at-l.ensures (f, omega (arith, f, c.requires.fits.rises))

pub returns : goal.returns
returns c =
    let a = c.args in
    let ps = places_in a.ps.now in
    let l = place_at ps a.k in
    let n : 0 < a.x.count = omega (arith, c.if-x-eq0.false) in
    let two = c.cancel-two.ensures ∙ ap cancel c.place_at-l.ensures in
    let e = c.put.ensures in
    record {
      places = e ∙ ap (set ps a.k) (two ∙ sym (ap (λ t. cond t (cancel l) l) (lt-ltb 0 a.x.count n)));
      sums = refl;
      ranks_long = length-set a.ranks.now a.k _ ∙ c.requires.ranks_long;
      ranked = subst (Each Ranked (set a.ranks.now a.k c.rank_of.result)) (sym e)
          (each_set Ranked a.ranks.now ps c.requires.long c.requires.ranked a.k c.requires.place _ _ c.requires.ranks_long
          c.rank_of.ensures);
    }
