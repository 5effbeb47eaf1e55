-- `write` meets its contract. Each refusal has the tests of the definition, and comes before the first store. Assumes nothing.
use mathlib.Core.Path.{sym, ◌∙◌, ap₂}
use mathlib.Core.Bool.{◌&&◌}
use native.Mathlib.Omega.{arith}
use Rattle.rules.proofs.Allowed.{below_next}
use Rattle.card.proofs.AnswerLaws.{write_29, write_4, write_30, write_done}
use Rattle.card.proofs.write.Goals as goal

pub returns-then-products-lt1 : goal.returns-then-products-lt1
returns-then-products-lt1 c = write_29 _ _ _ _ _ (omega arith)

pub returns-then-products-gt8 : goal.returns-then-products-gt8
returns-then-products-gt8 c = write_29 _ _ _ _ _ (omega arith)

pub returns-then-room-length_for : goal.returns-then-room-length_for
returns-then-room-length_for c = write_4 _ _ _ _ _ (omega arith) (omega arith) (omega arith)

pub returns-then-not-fit : goal.returns-then-not-fit
returns-then-not-fit c =
    let a = c.args in
    write_30 _ _ a.bidder a.round _ (omega arith) (omega arith) (omega arith)
    (ap₂ ◌&&◌ (sym (below_next a.bidder 31 c.holds.ensures c.up_to.ensures))
    (ap₂ ◌&&◌ (sym (below_next a.round 4095 c.holds-2.ensures c.up_to-2.ensures)) (sym c.lines_writable.ensures)) ∙ c.if-not-fit.true)

pub returns : goal.returns
returns c =
    let a = c.args in
    write_done _ _ a.bidder a.round _ (omega (arith, c.if-products-lt1.false)) (omega (arith, c.if-products-gt8.false))
    (omega (arith, c.if-room-length_for.false, c.length_for.ensures.0))
    (ap₂ ◌&&◌ (sym (below_next a.bidder 31 c.holds.ensures c.up_to.ensures))
    (ap₂ ◌&&◌ (sym (below_next a.round 4095 c.holds-2.ensures c.up_to-2.ensures)) (sym c.lines_writable.ensures)) ∙ c.if-not-fit.false)
    _ _ _ _ c.clear.ensures c.put_field.ensures c.put_field-2.ensures c.put_lines.ensures
