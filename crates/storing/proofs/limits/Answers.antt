use mathlib.Core.Path.{◌≡◌, ◌∙◌}
use Prim.Native.Nat.{suc, ◌+◌, ◌*◌}
use native.Mathlib.Omega.{arith}
use Rattle.rules.specs.Layout.{product_width, products_from}
use Rattle.storing.proofs.Each.{none_passed, next_passed, all_passed}
use Rattle.storing.proofs.Sections.{limits_written}
use Rattle.storing.proofs.limits.Goals as goal

pub loop-p-init : goal.loop-p-init
loop-p-init c = none_passed

pub loop-p-preserved : goal.loop-p-preserved
loop-p-preserved c =
    let d = c in
    let b = d in
    let l = b.loop-p in
    let e : l.p * product_width + (products_from + 1) ≡ suc (l.p * product_width + products_from) = omega arith in
    next_passed l.invariant (omega arith) (d.one-in-loop-p.ensures ∙ rw (b.one.ensures, e))

pub returns : goal.returns
returns c = λ a e. all_passed c.loop-p.invariant (omega arith) ∙ rw e (limits_written a c.args.targets c.args.caps)
