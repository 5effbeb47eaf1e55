use mathlib.Core.Path.{◌∙◌}
use native.Mathlib.Numerals.{towards_suc}
use native.Mathlib.Omega.{arith}
use Rattle.storing.proofs.Each.{none_passed, next_passed, all_passed}
use Rattle.storing.proofs.rows.Goals as goal

pub loop-i-init : goal.loop-i-init
loop-i-init c = none_passed

pub loop-i-preserved : goal.loop-i-preserved
loop-i-preserved c =
    let d = c in
    let c₂ = d in
    next_passed c₂.loop-i.invariant (omega arith) (d.two-in-loop-i.ensures ∙ rw c₂.two.ensures (simp towards_suc))

pub returns : goal.returns
returns c = all_passed c.loop-i.invariant (omega arith)
