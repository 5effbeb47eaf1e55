use mathlib.Core.Path.{◌∙◌}
use native.Mathlib.Omega.{arith}
use Rattle.storing.proofs.Each.{none_passed, next_passed, all_passed}
use Rattle.storing.proofs.Sections.{free_written}
use Rattle.storing.proofs.free.Goals as goal

pub loop-b-init : goal.loop-b-init
loop-b-init c = none_passed

pub loop-b-preserved : goal.loop-b-preserved
loop-b-preserved c =
    let d = c in
    next_passed d.loop-b.invariant (omega arith) d.two.ensures

pub returns : goal.returns
returns c = λ a e. all_passed c.loop-b.invariant (omega arith) ∙ rw e (free_written a c.args.free)
