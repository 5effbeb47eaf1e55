use mathlib.Core.Bool.{◌&&◌}
use mathlib.Core.Path.{refl, sym, ◌∙◌, ap, ap₂}
use borrow.Author.Rules.{rules}
use borrow.Author.Tests.{tests}
use lib.Dec.{eqb, ltb}
use lib.ListN.{get_or}
use Rattle.std.specs.Prelude.{is_ok}
use Rattle.rules.specs.Bid.{judged, slot_of}
use Rattle.rules.specs.Card.{no_line}
use Rattle.rules.specs.Held.{place}
use Rattle.rules.specs.Layout.{loaded}
use Rattle.rules.proofs.Numbered.{ok_is}
use Rattle.rules.proofs.Ranges.{all_below}
use Rattle.rules.proofs.Tests.{yes}
use Rattle.rules.proofs.Made.{made}
use Rattle.legal.proofs.Zero.{zero_on, filed_zero, unfiled_zero}
use Rattle.legal.proofs.slot_stands.Goals as goal

pub returns-then-not-filed : goal.returns-then-not-filed
returns-then-not-filed c =
    let a = loaded c.args.s.now in
    let lines = made (λ p. get_or a.cards.lines (place c.args.b p) no_line) 8 (λ p y q l k. search (rules, tests)) c.from_fn-lines.ensures.items in
    let zero = all_below (zero_on c.products-m.result c.has_filed-filed.result c.from_fn-lines.result) 8 refl (λ x b q k. search (rules, tests)) c.all-zero.ensures.ran in
    rw (sym c.has_filed-filed.ensures ∙ c.if-not-filed.true)
    (rw (c.if-not-filed.true, lines) at zero ∙ unfiled_zero (slot_of a c.args.b) c.products-m.result)

pub returns : goal.returns
returns c =
    let a = loaded c.args.s.now in
    let b = c.args.b in
    let lines = made (λ p. get_or a.cards.lines (place b p) no_line) 8 (λ p y q l k. search (rules, tests)) c.from_fn-lines.ensures.items in
    let zero = all_below (zero_on c.products-m.result c.has_filed-filed.result c.from_fn-lines.result) 8 refl (λ x b q k. search (rules, tests)) c.all-zero.ensures.ran in
    let left = c.if-not-filed.false in
    rw (yes c.has_filed-filed.ensures left)
    (ap₂ ◌&&◌ (ap (ltb b) c.bidders.ensures.0)
    (ap₂ ◌&&◌ (c.is_ok.ensures.value ∙ ap is_ok c.judge.ensures ∙ ok_is tt _ ∙ ap (λ ls. eqb (judged a b ls) 0) lines)
    (rw (left, lines, c.products-m.ensures.0) at zero ∙ filed_zero (slot_of a b) _)))
