use Rattle.round.proofs.Whole.{few, drawn_by, finishes}
use Rattle.round.proofs.finish.Goals as goal

pub outbid_all-o-requires : goal.outbid_all-o-requires
outbid_all-o-requires c =
    let R = c.requires.round in
    let em = c.products-products.ensures.0 in
    let en = c.bidders-bidders.ensures.0 in
    record { few = few _ _ R em en; draw = drawn_by _ _ R em en; room = c.deem_all.ensures.1 }

pub returns : goal.returns
returns c =
    finishes _ _ c.requires.round c.products-products.ensures.0 c.bidders-bidders.ensures.0 c.args.ticks.now c.args.lanes c.requires.ticks c.requires.lanes
    _ _ _ c.args.count c.outbid_all-o.result.count c.outbid_all-o.result.free c.deem_all.ensures.0 c.outbid_all-o.ensures c.settle.ensures
