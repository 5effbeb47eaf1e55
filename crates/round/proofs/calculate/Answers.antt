use mathlib.Core.Path.{sym, subst}
use Rattle.table.specs.Room.{Room}
use Rattle.round.proofs.Bids.{room_accepted}
use Rattle.round.proofs.Whole.{few, drawn_by, calculates}
use Rattle.round.proofs.calculate.Goals as goal

pub keep_all-kept-requires : goal.keep_all-kept-requires
keep_all-kept-requires c =
    let R = c.requires in
    let em = c.products-products.ensures.0 in
    let en = c.bidders-bidders.ensures.0 in
    record {
      few = few _ _ R em en;
      draw = drawn_by _ _ R em en;
      room = subst Room (sym c.accept_all.ensures) (room_accepted _ R.stands);
    }

pub returns : goal.returns
returns c =
    calculates _ _ c.requires c.products-products.ensures.0 c.bidders-bidders.ensures.0 c.ticks-ticks.result c.lanes_of-lanes.result c.ticks-ticks.ensures.1
    c.lanes_of-lanes.ensures.0 c.lanes_of-lanes.ensures.1 _ _ _ c.accept_all.ensures c.finish.ensures c.keep_all-kept.ensures.0
