use mathlib.Core.Path.{◌≡◌, ◌∙◌}
use Prim.Native.Nat.{suc, ◌+◌, ◌*◌}
use native.Mathlib.Omega.{arith}
use Rattle.rules.specs.Layout.{product_width, products_from}
use Rattle.storing.proofs.Each.{none_passed, next_passed, all_passed}
use Rattle.storing.proofs.Sections.{prices_written}
use Rattle.storing.proofs.prices.Goals as goal

pub loop-p-init : goal.loop-p-init
loop-p-init c = none_passed

pub loop-p-preserved : goal.loop-p-preserved
loop-p-preserved c =
    let d = c in
    let b = d in
    let l = b.loop-p in
    let e : l.p * product_width + (products_from + 8) ≡ suc (suc (suc (l.p * product_width + (products_from + 5)))) = omega arith in
    next_passed l.invariant (omega arith)
    (d.three-in-loop-p.ensures ∙ rw (d.amount-in-loop-p.ensures, b.three.ensures, b.amount.ensures, e))

pub returns : goal.returns
returns c =
    let d = c.args in
    λ a e. all_passed c.loop-p.invariant (omega arith) ∙ rw e (prices_written a d.price d.before)
