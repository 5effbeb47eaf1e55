-- `read` meets its contract. Each refusal's tests are those of the definition. Assumes nothing.
use mathlib.Core.Path.{sym, ◌∙◌}
use native.Mathlib.Omega.{arith}
use Rattle.rules.specs.Card.{filled}
use Rattle.card.proofs.AnswerLaws.{read_29, read_4, read_5, read_found, not_filled, is_filled}
use Rattle.card.proofs.read.Goals as goal

pub returns-then-products-lt1 : goal.returns-then-products-lt1
returns-then-products-lt1 c = c.refused.ensures ∙ sym (read_29 _ _ (omega arith))

pub returns-then-products-gt8 : goal.returns-then-products-gt8
returns-then-products-gt8 c = c.refused-then-products-gt8.ensures ∙ sym (read_29 _ _ (omega arith))

pub returns-then-card-length_for : goal.returns-then-card-length_for
returns-then-card-length_for c = c.refused-then-card-length_for.ensures ∙ sym (read_4 _ _ (omega arith) (omega arith) (omega arith))

pub returns-in_default : goal.returns-in_default
returns-in_default c =
    let a = c.args in
    c.refused-in_default.ensures
    ∙ sym (read_5 a.card.now a.products (omega arith) (omega arith) (omega arith)
    (not_filled (filled a.card.now a.products) _ _ (sym c.take_card-taken.ensures.0 ∙ c.in_default.is)))

pub returns : goal.returns
returns c =
    let a = c.args in
    read_found a.card.now a.products (omega arith) (omega arith) (omega arith)
    (is_filled (filled a.card.now a.products) _ _ (sym c.take_card-taken.ensures.0 ∙ c.in-Ok.is)) _ c.take_card-taken.ensures.0 c.take_card-taken.ensures.1
