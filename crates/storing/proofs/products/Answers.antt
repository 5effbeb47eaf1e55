use mathlib.Core.Path.{◌≡◌, ◌∙◌}
use Prim.Native.Nat.{suc, ◌+◌, ◌*◌}
use native.Mathlib.Numerals.{towards_suc}
use native.Mathlib.Omega.{arith}
use Rattle.rules.specs.Parts.{lane, no_lane}
use Rattle.rules.specs.Settings.{target_of, cap_of, start_of}
use Rattle.rules.specs.Calls.{opened}
use Rattle.rules.specs.Layout.{product_width, products_from}
use Rattle.rules.proofs.Lists.{list_at}
use Rattle.storing.proofs.Each.{none_passed, next_passed, all_passed}
use Rattle.storing.proofs.products.Goals as goal

pub loop-p-init : goal.loop-p-init
loop-p-init c = none_passed

pub loop-p-preserved : goal.loop-p-preserved
unfolding opened
loop-p-preserved c =
    let d = c in
    let c₂ = d in
    let c₃ = c₂ in
    let c₄ = c₃ in
    let c₅ = c₄ in
    let c₆ = c₅ in
    let l = c₆ in
    let t = l.args.t in
    let k = l.loop-p.p * product_width + products_from in
    let e : k + 11 ≡ suc (suc (suc (k + 8))) = omega arith in
    next_passed l.loop-p.invariant (omega arith)
    (rw (list_at (λ p. lane (target_of t p) (cap_of t p) (start_of t p) (start_of t p) (start_of t p) 0) no_lane 8 l.loop-p.p (omega arith))
    (d.byte.ensures ∙ rw (c₂.three-in-loop-p-2.ensures, c₃.three-in-loop-p.ensures, c₄.three.ensures, c₅.one-in-loop-p.ensures, c₆.one.ensures, e) (simp towards_suc)))

pub returns : goal.returns
returns c = all_passed c.loop-p.invariant (omega arith)
