use mathlib.Core.Path.{◌∙◌, refl, ap}
use native.Mathlib.Omega.{arith}
use borrow.Author.Rules.{rules}
use Rattle.rules.specs.Card.{read_card}
use Rattle.rules.specs.Layout.{loaded}
use Rattle.rules.proofs.Storing.{loaded_long}
use Rattle.filing.proofs.Numbers.{Reads, bid_filed, slot_filed}
use Rattle.filing.proofs.file_card.Goals as goal

pub returns : goal.returns
returns c =
    let a = loaded c.args.s.now in
    let got = c.read-got.result in
    let bid = c.in_ok-bidder.field-0 in
    let reads : Reads c.args.s.now c.args.card.now got = record {
      bidding = omega (arith, c.if-phase-ne-OPEN.false, c.phase.ensures);
      read = c.read-got.ensures ∙ ap (read_card c.args.card.now) c.products.ensures.0;
    } in
    bid_filed reads c.in_ok-bidder.was (search rules) refl
    (slot_filed a bid.bidder _ c.marked-marks.result got.lines c.marked-marks.ensures c.filed.ensures
    (c.filed-2.ensures _ (c.slot.ensures a (loaded_long c.args.s.now).lines c.as_stored.ensures.1)))
