use mathlib.Core.Path.{◌∙◌}
use native.Mathlib.Omega.{arith}
use Rattle.storing.proofs.Each.{none_passed, next_passed, all_passed}
use Rattle.storing.proofs.Sections.{slot_written}
use borrow.Author.Rules.{rules}
use Rattle.storing.proofs.slot.Goals as goal

pub loop-p-init : goal.loop-p-init
loop-p-init c = none_passed

pub loop-p-preserved : goal.loop-p-preserved
loop-p-preserved c =
    let d = c in
    next_passed d.loop-p.invariant (omega arith) d.line.ensures

pub returns : goal.returns
returns c =
    let d = c.args in
    λ a l e. all_passed c.loop-p.invariant (omega arith) ∙ rw e (slot_written a d.b d.lines (omega arith) (search rules) l)
