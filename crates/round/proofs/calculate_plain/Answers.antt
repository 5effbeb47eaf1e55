use mathlib.Core.Path.{sym, subst}
use Rattle.table.specs.Room.{Room}
use Rattle.round.proofs.Bids.{room_accepted}
use Rattle.round.proofs.Whole.{few, drawn_by, ordered_by, calculates_plain_lem}
use Rattle.round.proofs.calculate_plain.Goals as goal

pub keep_plain-kept-requires : goal.keep_plain-kept-requires
keep_plain-kept-requires c =
    let R = c.requires.round in
    let em = c.products-products.ensures.0 in
    let en = c.bidders-bidders.ensures.0 in (
      record {
        few = few _ _ R em en;
        draw = drawn_by _ _ R em en;
        room = subst Room (sym c.accept_all.ensures) (room_accepted _ R.stands);
      },
      ordered_by _ _ R em en c.requires.ordered,
    )

pub finish-requires : goal.finish-requires
finish-requires c =
    record { round = c.requires.round; ticks = c.ticks-ticks.ensures.1; lanes = c.lanes_of-lanes.ensures.0; room = c.keep_plain-kept.ensures.1 }

pub returns : goal.returns
returns c =
    calculates_plain_lem _ _ c.requires.round c.products-products.ensures.0 c.bidders-bidders.ensures.0 c.ticks-ticks.result c.lanes_of-lanes.result c.ticks-ticks.ensures.1
    c.lanes_of-lanes.ensures.0 c.lanes_of-lanes.ensures.1 _ _ _ c.accept_all.ensures c.finish.ensures _ c.requires.ordered c.keep_plain-kept.ensures.0
