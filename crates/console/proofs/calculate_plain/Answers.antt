use mathlib.Core.Path.{◌≡◌, ◌∙◌}
use Rattle.std.proofs.Common.{rules}
use Rattle.std.specs.Prelude.{Err}
use Rattle.rules.specs.Calls.{plain_call}
use Rattle.rules.proofs.Numbered.{accepted}
use Rattle.console.proofs.Rounds.{ready_for, refused, done}
use Rattle.console.proofs.calculate_plain.Goals as goal

pub returns-in_err-plain_number : goal.returns-in_err-plain_number
unfolding plain_call
returns-in_err-plain_number c =
    let e = c.in_err-plain_number in
    let r : c.from_residual.result ≡ Err e.field-0.0 = search rules in
    let k = refused _ _ c.args.s.now e.ensures in
    (r ∙ k.0, k.1)

pub calculate_plain-done-requires : goal.calculate_plain-done-requires
calculate_plain-done-requires c = ready_for c.args.s.now c.args.draw.now c.args.overrides c.args.order.now (record { small = λ i. search rules }) (accepted tt _ c.in_ok-plain_number.ensures)

pub returns : goal.returns
unfolding plain_call
returns c = done _ _ _ (accepted tt _ c.in_ok-plain_number.ensures) _ _ c.calculate_plain-done.ensures
