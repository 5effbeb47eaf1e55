use mathlib.Core.Path.{◌∙◌, ap}
use Rattle.rules.specs.Accept.{outbid_switch, outbid_withdrawal}
use Rattle.rules.specs.Round.{drawn}
use Rattle.table.specs.Rows.{places_in}
use Rattle.outbid.proofs.Laws.{soonest_drawn, lost_none, some_denied, lost_switch, lost_withdrawal}
use Rattle.outbid.proofs.lose.Goals as goal

pub returns-then-s-eq-NOTHING : goal.returns-then-s-eq-NOTHING
returns-then-s-eq-NOTHING c =
    let n = c.next_turn-s in
    let a = c.args in
    lost_none a.bidders (drawn a.order.now) (places_in a.ps.now) c.requires.room a.p n.result n.ensures _
    c.place_at-l.ensures c.if-s-eq-NOTHING.true

pub bidder_at-b-requires : goal.bidder_at-b-requires
bidder_at-b-requires c =
    let n = c.next_turn-s in
    let a = c.args in
    (soonest_drawn a.bidders (drawn a.order.now) (places_in a.ps.now) a.p n.result n.ensures c.if-s-eq-NOTHING.false, c.requires.draw)

pub outbid_switch-place-requires : goal.outbid_switch-place-requires
outbid_switch-place-requires c =
    let n = c.next_turn-s in
    let a = c.args in
    let e = c.bidder_at-b.ensures in
    rw c.place_at-l-2.ensures
    (some_denied a.bidders (drawn a.order.now) (places_in a.ps.now) c.requires.room a.p n.result n.ensures
    c.bidder_at-b.result c.place_at-l-2.result e.0 c.requires.draw.few e.1 c.requires.product c.if-s-eq-SWITCH.true)

pub returns-then-s-eq-SWITCH : goal.returns-then-s-eq-SWITCH
returns-then-s-eq-SWITCH c =
    let n = c.next_turn-s in
    let a = c.args in
    let e = c.bidder_at-b.ensures in
    lost_switch a.bidders (drawn a.order.now) (places_in a.ps.now) c.requires.room a.p n.result n.ensures
    c.bidder_at-b.result _ e.0 c.requires.draw.few e.1 c.requires.product c.if-s-eq-SWITCH.true
    (c.outbid_switch-place.ensures ∙ ap outbid_switch c.place_at-l-2.ensures) _ c.known_again-next.ensures

pub returns : goal.returns
returns c =
    let n = c.next_turn-s in
    let a = c.args in
    let e = c.bidder_at-b.ensures in
    lost_withdrawal a.bidders (drawn a.order.now) (places_in a.ps.now) c.requires.room a.p n.result n.ensures
    c.bidder_at-b.result _ e.0 c.requires.draw.few e.1 c.requires.product c.if-s-eq-NOTHING.false c.if-s-eq-SWITCH.false
    (c.outbid_withdrawal-place.ensures ∙ ap outbid_withdrawal c.place_at-l-2.ensures) _ c.known_again-next-2.ensures
