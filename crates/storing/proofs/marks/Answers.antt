use mathlib.Core.Path.{◌∙◌}
use native.Mathlib.Omega.{arith}
use Rattle.storing.proofs.Each.{none_passed, next_passed, all_passed}
use Rattle.storing.proofs.Sections.{marks_written}
use Rattle.storing.proofs.marks.Goals as goal

pub loop-p-init : goal.loop-p-init
loop-p-init c = none_passed

pub loop-p-preserved : goal.loop-p-preserved
loop-p-preserved c =
    let d = c in
    next_passed d.loop-p.invariant (omega arith) d.byte.ensures

pub returns : goal.returns
returns c = λ a e. all_passed c.loop-p.invariant (omega arith) ∙ rw e (marks_written a c.args.marks)
