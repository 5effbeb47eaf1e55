use mathlib.Core.Path.{◌∙◌}
use native.Mathlib.Omega.{arith}
use Rattle.rules.specs.Report.{report_refused}
use Rattle.rules.specs.Calls.{bidder_number, report_call}
use Rattle.rules.proofs.Numbered.{accepted}
use Rattle.numbers.proofs.StateLaws.{stood_by, lent}
use Rattle.console.proofs.Answering.{refuses_with, answers_with}
use Rattle.console.proofs.Fitting.{bidder_in_use}
use Rattle.console.proofs.report.Goals as goal

pub report_on-requires : goal.report_on-requires
report_on-requires c =
    let p = stood_by _ 3 (bidder_number c.args.bidder) (omega arith) (accepted tt _ c.in-Ok.ensures) in
    (lent _ p.0, omega (arith, bidder_in_use _ _ p.1, p.0.stood.limits.bidders))

pub returns-in-Ok : goal.returns-in-Ok
unfolding report_call
returns-in-Ok c = answers_with _ _ report_refused _ (accepted tt _ c.in-Ok.ensures) c.report_on.ensures

pub returns-in-Err : goal.returns-in-Err
unfolding report_call
returns-in-Err c = c.refused_report.ensures ∙ refuses_with _ _ report_refused c.in-Err.ensures
