use mathlib.Core.Path.{◌∙◌, ap}
use native.Mathlib.Omega.{arith}
use Rattle.rules.specs.Parts.{no_cards, unmarked, with_cards}
use Rattle.rules.specs.Outbid.{outbid}
use Rattle.rules.specs.Round.{booked}
use Rattle.rules.specs.Layout.{loaded, stored}
use Rattle.table.specs.Rows.{places_in}
use Rattle.round.proofs.Whole.{ends, stops_here, goes_on_lem}
use Rattle.round.proofs.settle.Goals as goal

pub returns-then-excess-eq0 : goal.returns-then-excess-eq0
returns-then-excess-eq0 c =
    let z = with_cards (unmarked (booked (loaded c.args.s.now) (outbid (places_in c.args.ps.now) c.args.free 0))) no_cards in
    c.phase.ensures z c.rest.ensures
    ∙ ap stored (ends (loaded c.args.s.now) (places_in c.args.ps.now) c.args.free c.held_all-held.result _ c.requires.lent.counts c.bidders-bidders.result c.bidders-bidders.ensures.0
    c.held_all-held.ensures c.requires.lanes c.foresee-next.ensures c.all_free.ensures.0 (omega (arith, c.if-excess-eq0.true)))

pub returns-then-stops : goal.returns-then-stops
returns-then-stops c =
    let z = with_cards (unmarked (booked (loaded c.args.s.now) (outbid (places_in c.args.ps.now) c.args.free 0))) no_cards in
    c.phase-then-stops.ensures z c.rest.ensures
    ∙ ap stored (stops_here (loaded c.args.s.now) (places_in c.args.ps.now) c.args.free c.held_all-held.result _ c.requires.lent.counts c.bidders-bidders.result c.bidders-bidders.ensures.0
    c.held_all-held.ensures c.requires.lanes c.foresee-next.ensures c.all_free.ensures.0 (λ z. omega (arith, c.if-excess-eq0.false)) c.if-stops.true)

pub returns : goal.returns
returns c =
    let z = with_cards (unmarked (booked (loaded c.args.s.now) (outbid (places_in c.args.ps.now) c.args.free 0))) no_cards in
    c.open_next.ensures z c.rest.ensures
    ∙ ap stored (goes_on_lem (loaded c.args.s.now) (places_in c.args.ps.now) c.args.free c.held_all-held.result _ c.requires.lent.counts c.bidders-bidders.result c.bidders-bidders.ensures.0
    c.held_all-held.ensures c.requires.lanes c.foresee-next.ensures c.all_free.ensures.0 (λ z. omega (arith, c.if-excess-eq0.false)) c.if-stops.false c.round-round.result c.round-round.ensures)
