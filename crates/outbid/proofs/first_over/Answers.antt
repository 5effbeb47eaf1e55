use mathlib.Core.Path.{◌≡◌, sym, ◌∙◌, ap}
use Prim.Native.Nat.{suc}
use native.Mathlib.Numerals.{add-one}
use native.Mathlib.Omega.{arith}
use Rattle.rules.specs.Count.{first_up_to}
use Rattle.rules.proofs.Sums.{first_stays, first_here, first_not}
use Rattle.outbid.specs.Loss.{over_by}
use Rattle.outbid.proofs.first_over.Goals as goal

pub is_over-requires : goal.is_over-requires
is_over-requires c = c.requires.small c.loop-p.p (omega (arith, c.requires.few, c.loop-p-test.true))

pub returns-then-is_over : goal.returns-then-is_over
returns-then-is_over c =
    let a = c.args in
    let v = c.loop-p in
    let test = over_by a.held.now a.kept.now a.targets.now a.ticks.now in
    sym
    (first_stays test (suc v.p) v.p a.products
    (first_here test v.p v.invariant (sym c.is_over.ensures ∙ c.if-is_over.true)) c.loop-p-test.true)

pub loop-p-preserved : goal.loop-p-preserved
loop-p-preserved c =
    let a = c.args in
    let v = c.loop-p in
    rw add-one (first_not (over_by a.held.now a.kept.now a.targets.now a.ticks.now) v.p v.invariant
    (sym c.is_over.ensures ∙ c.if-is_over.false))

pub returns : goal.returns
returns c =
    let a = c.args in
    let v = c.loop-p in
    let e : v.p ≡ a.products = omega (arith, c.loop-p-test.false, c.requires.start_in) in
    sym (ap (first_up_to (over_by a.held.now a.kept.now a.targets.now a.ticks.now)) (sym e) ∙ v.invariant)
