use mathlib.Core.Path.{◌≡◌, ◌∙◌}
use borrow.Author.Rules.{rules}
use Rattle.std.specs.Prelude.{Err}
use Rattle.rules.proofs.Numbered.{accepted}
use Rattle.numbers.proofs.StateLaws.{standing, lent}
use Rattle.console.proofs.Filing.{state_refused, card_answered}
use Rattle.console.proofs.file.Goals as goal

pub returns-in_err-state_number : goal.returns-in_err-state_number
returns-in_err-state_number c =
    let e = c.in_err-state_number in
    let r : c.from_residual.result ≡ Err e.field-0.0 = search rules in
    let k = state_refused c.args.s.now c.args.card.now e.ensures in
    (r ∙ k.0, k.1)

pub file_card-requires : goal.file_card-requires
file_card-requires c = lent _ (standing _ (accepted tt _ c.in_ok-state_number.ensures))

pub returns : goal.returns
returns c = card_answered c.args.s.now c.args.card.now (standing _ (accepted tt _ c.in_ok-state_number.ensures)) _ _ c.file_card.ensures
