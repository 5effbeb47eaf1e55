use mathlib.Core.Path.{◌≡◌, ap, ◌∙◌}
use Prim.Native.Nat.{suc, ◌+◌, ◌-◌}
use native.Mathlib.Numerals.{add-one}
use native.Mathlib.Omega.{arith}
use Rattle.rules.specs.Count.{sum_up_to}
use Rattle.rules.specs.Units.{tranches}
use Rattle.rules.specs.Held.{going_in, free_of}
use Rattle.rules.specs.Bid.{record_of}
use Rattle.rules.specs.Cutback.{given_for}
use Rattle.rules.specs.Layout.{loaded}
use Rattle.cutback.proofs.Sums.{sum_grows}
use Rattle.cutback.proofs.free_after.Goals as goal

pub overflow_add-sum : goal.overflow_add-sum
overflow_add-sum c =
    let a = c.args in
    let e = ap going_in c.record-own.ensures in
    let g = sum_grows (λ p. going_in (record_of (loaded a.s.now) a.b p)) (suc c.loop-p.p) (loaded a.s.now).terms.products (omega (arith, c.products-products.ensures.0)) in
    omega (arith, c.requires.0.room a.b (omega arith))

pub loop-p-preserved : goal.loop-p-preserved
loop-p-preserved c = let e = ap going_in c.record-own.ensures in rw add-one (omega arith)

pub overflow_cast-result : goal.overflow_cast-result
overflow_cast-result c =
    let a = c.args in
    let g = sum_grows (λ p. going_in (record_of (loaded a.s.now) a.b p)) c.loop-p.p (loaded a.s.now).terms.products (omega (arith, c.products-products.ensures.0)) in
    omega (arith, c.requires.0.room a.b (omega arith))

pub returns : goal.returns
returns c =
    let a = c.args in
    let e : c.loop-p.p ≡ (loaded a.s.now).terms.products = omega (arith, c.loop-p-test.false, c.products-products.ensures.0) in
    ap tranches (c.loop-p.invariant.0
    ∙ ap (λ m. free_of (loaded a.s.now) a.b + sum_up_to (λ p. going_in (record_of (loaded a.s.now) a.b p) - given_for a.caps p) m) e)
