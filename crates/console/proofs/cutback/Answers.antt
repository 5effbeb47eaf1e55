use mathlib.Core.Path.{◌≡◌, ◌∙◌}
use Rattle.std.proofs.Common.{rules}
use native.Mathlib.Omega.{arith}
use Rattle.std.specs.Prelude.{Err}
use Rattle.rules.specs.Calls.{cut_number, cutback_call}
use Rattle.rules.proofs.Numbered.{accepted}
use Rattle.numbers.proofs.StateLaws.{stood_by}
use Rattle.console.proofs.Answering.{refuses, does}
use Rattle.console.proofs.Fitting.{cutting}
use Rattle.console.proofs.cutback.Goals as goal

pub returns-in_err-cutback_number : goal.returns-in_err-cutback_number
unfolding cutback_call
returns-in_err-cutback_number c =
    let e = c.in_err-cutback_number in
    let r : c.from_residual.result ≡ Err e.field-0.0 = search rules in
    let k = refuses _ _ c.args.s.now e.ensures in
    (r ∙ k.0, k.1)

pub cut_back-requires : goal.cut_back-requires
cut_back-requires c =
    let a = c.args in
    let p = stood_by _ 3 (cut_number a.targets a.caps) (omega arith) (accepted tt _ c.in_ok-cutback_number.ensures) in
    cutting _ a.targets a.caps (record { small = λ i. search rules }) p.0 p.1

pub returns : goal.returns
unfolding cutback_call
returns c = does _ _ _ _ (accepted tt _ c.in_ok-cutback_number.ensures) c.cut_back.ensures
