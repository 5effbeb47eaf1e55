use mathlib.Core.Path.{◌∙◌}
use native.Mathlib.Omega.{arith}
use Rattle.table.specs.Rows.{places_in}
use Rattle.storing.proofs.Each.{none_passed, next_passed, all_passed}
use Rattle.storing.proofs.Sections.{records_written}
use Rattle.storing.proofs.records.Goals as goal

pub loop-k-init : goal.loop-k-init
loop-k-init c = none_passed

pub loop-k-preserved : goal.loop-k-preserved
loop-k-preserved c =
    let d = c in
    next_passed d.loop-k.invariant (omega arith) (rw d.record-r.ensures at d.record.ensures)

pub returns : goal.returns
returns c = λ a e. all_passed c.loop-k.invariant (omega arith) ∙ rw e (records_written a (places_in c.args.ps.now))
