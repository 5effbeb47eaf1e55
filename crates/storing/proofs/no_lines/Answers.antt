use mathlib.Core.Path.{◌∙◌}
use native.Mathlib.Omega.{arith}
use Rattle.storing.proofs.Each.{none_passed, next_passed, all_passed}
use Rattle.storing.proofs.Sections.{lines_gone}
use Rattle.storing.proofs.no_lines.Goals as goal

pub loop-k-init : goal.loop-k-init
loop-k-init c = none_passed

pub loop-k-preserved : goal.loop-k-preserved
loop-k-preserved c =
    let d = c in
    let l = d.loop-k in
    next_passed l.invariant (omega arith) (rw d.none-l.ensures at d.line.ensures)

pub returns : goal.returns
returns c = λ a e. all_passed c.loop-k.invariant (omega arith) ∙ rw e (lines_gone a)
