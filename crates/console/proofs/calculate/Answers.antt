use mathlib.Core.Path.{◌≡◌, ◌∙◌}
use Rattle.std.proofs.Common.{rules}
use Rattle.std.specs.Prelude.{Err}
use Rattle.rules.specs.Calls.{calculate_call}
use Rattle.rules.proofs.Numbered.{accepted}
use Rattle.console.proofs.Rounds.{ready, refused, done}
use Rattle.console.proofs.calculate.Goals as goal

pub returns-in_err-calculate_number : goal.returns-in_err-calculate_number
unfolding calculate_call
returns-in_err-calculate_number c =
    let e = c.in_err-calculate_number in
    let r : c.from_residual.result ≡ Err e.field-0.0 = search rules in
    let k = refused _ _ c.args.s.now e.ensures in
    (r ∙ k.0, k.1)

pub calculate-done-requires : goal.calculate-done-requires
calculate-done-requires c = ready c.args.s.now c.args.draw.now c.args.overrides (record { small = λ i. search rules }) (accepted tt _ c.in_ok-calculate_number.ensures)

pub returns : goal.returns
unfolding calculate_call
returns c = done _ _ _ (accepted tt _ c.in_ok-calculate_number.ensures) _ _ c.calculate-done.ensures
