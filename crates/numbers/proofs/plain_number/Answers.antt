use mathlib.Core.Path.{◌≡◌, ◌∙◌}
use borrow.Author.Rules.{rules}
use Rattle.std.specs.Prelude.{Err}
use Rattle.rules.proofs.Numbered.{rejected, passed_on}
use Rattle.numbers.proofs.StateLaws.{first_by}
use Rattle.numbers.proofs.plain_number.Goals as goal

pub returns-in_err-calculate_number : goal.returns-in_err-calculate_number
returns-in_err-calculate_number c =
    let e = c.in_err-calculate_number in
    let r : c.from_residual.result ≡ Err e.field-0.0 = search rules in
    r ∙ passed_on tt tt _ _ e.ensures (first_by _ _ (rejected tt _ e.ensures))
