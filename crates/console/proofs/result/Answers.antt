use mathlib.Core.Path.{◌∙◌}
use native.Mathlib.Omega.{arith}
use Rattle.rules.specs.Report.{result_refused}
use Rattle.rules.specs.Calls.{closed_number, result_call}
use Rattle.rules.proofs.Numbered.{accepted}
use Rattle.numbers.proofs.StateLaws.{stood_by, lent}
use Rattle.console.proofs.Answering.{refuses_with, answers_with}
use Rattle.console.proofs.result.Goals as goal

pub result_of-requires : goal.result_of-requires
result_of-requires c = lent _ (stood_by _ 16 closed_number (omega arith) (accepted tt _ c.in-Ok.ensures)).0

pub returns-in-Ok : goal.returns-in-Ok
unfolding result_call
returns-in-Ok c = answers_with _ _ result_refused _ (accepted tt _ c.in-Ok.ensures) c.result_of.ensures

pub returns-in-Err : goal.returns-in-Err
unfolding result_call
returns-in-Err c = c.refused_result.ensures ∙ refuses_with _ _ result_refused c.in-Err.ensures
